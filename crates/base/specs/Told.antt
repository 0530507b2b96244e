-- What an answer tells. Document 01, "The shape of each place": "When an answer is an enum, a definition sets out this paper's number and values for each
-- of its cases. The promises use that definition." The number is the place in 01's list of what a step answers ("Session"): "go, send k (the out buffer's
-- first k bytes), image (start in the set and length), open i, bytes k (the delivery's first k), empty read, close i, finished, refused". An operation that
-- accepts or refuses tells go or refused.
use Rattle.std.specs.Prelude.{ℕ, ◌≡◌, List, [], ◌∷◌}

pub record Told : Type 0 where
  pub number : ℕ
  pub values : List ℕ

abbrev pub told : ℕ → List ℕ → Told
told n vs = record { number = n; values = vs }

-- 01's list; finished has its number and the memory reads, refused its number
abbrev pub told_go : Told
told_go = told 0 []

abbrev pub told_send : ℕ → Told
told_send k = told 1 (k ∷ [])

abbrev pub told_image : ℕ → ℕ → Told
told_image start k = told 2 (start ∷ k ∷ [])

abbrev pub told_open : ℕ → Told
told_open i = told 3 (i ∷ [])

abbrev pub told_bytes : ℕ → Told
told_bytes k = told 4 (k ∷ [])

abbrev pub told_empty_read : Told
told_empty_read = told 5 []

abbrev pub told_close : ℕ → Told
told_close i = told 6 (i ∷ [])

abbrev pub told_finished : ℕ → ℕ → Told
told_finished how reads = told 7 (how ∷ reads ∷ [])

abbrev pub told_refused : ℕ → Told
told_refused why = told 8 (why ∷ [])

-- a promise: the answer r is the definition's d, and its number and values by t are those of d
pub record Tells {A : Type 0} (t : A → Told) (r d : A) : Type 0 where
  pub is : r ≡ d
  pub told : t r ≡ t d
