-- Lists of steps of any machine: S is its state, I what a step is lent, R a report. What a list comes to, reports, and how many of its steps count.
use Rattle.std.specs.Prelude.{Bool, true, false, List, [], ◌∷◌, ◌++◌, ℕ, ◌+◌}

abbrev pub one : Bool → ℕ
one true = 1
one false = 0

module _ {S I : Type 0} (next : S → I → S) where
  -- the state after the list
  abbrev pub final : S → List I → S
  final s [] = s
  final s (i ∷ is) = final (next s i) is

  -- P holds of every step of the list: of the state before it and what it is lent
  abbrev pub Throughout : (S → I → Type 0) → S → List I → Type 0
  Throughout P s [] = Unit
  Throughout P s (i ∷ is) = P s i × Throughout P (next s i) is

  -- what the list reports
  abbrev pub outs : {R : Type 0} → (S → I → List R) → S → List I → List R
  outs out s [] = []
  outs out s (i ∷ is) = out s i ++ outs out (next s i) is

  -- how many of its steps count
  abbrev pub counted : (S → I → Bool) → S → List I → ℕ
  counted counts s [] = 0
  counted counts s (i ∷ is) = one (counts s i) + counted counts (next s i) is
