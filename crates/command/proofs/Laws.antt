-- Laws of the numbers: a mode, a command and a kind are found again by their number; the class of a number outside the lists. Assumes nothing.
use mathlib.Core.Path.{◌≡◌, refl}
use mathlib.Core.Bool.{Bool, true, false}
use mathlib.Core.List.{List, [], ◌∷◌}
use Prim.Native.Nat.{ℕ, ◌<◌, ◌≤◌}
use native.Mathlib.Omega.{arith}
use borrow.Author.Tests.{eqb-true, ne_eqb}
use lib.Dec.{T, eqb, ltb, ltb→lt}
use Rattle.std.specs.Prelude.{Result, Ok, Err}
use Rattle.refusal.specs.declared.Refusal.{Refusal}
use Rattle.base.specs.Choice.{pick}
use Rattle.base.proofs.Ranges.{by_test, both_left, both_right}
use Rattle.command.specs.Command.{mode_number, command_number, kind_number, mode_of, command_of, kinds, kind_among, among, class_of}
use Rattle.command.specs.declared.SaharaMode.{SaharaMode}
use Rattle.command.specs.declared.SaharaMode.TheVariants as M
use Rattle.command.specs.declared.SaharaCmdModeCmd.{SaharaCmdModeCmd}
use Rattle.command.specs.declared.SaharaCmdModeCmd.TheVariants as E
use Rattle.command.specs.declared.SaharaCmd.{SaharaCmd}
use Rattle.command.specs.declared.SaharaCmd.TheVariants as K
use Rattle.command.specs.declared.Class.{Class}
use Rattle.command.specs.declared.Class.TheVariants as C

-- a mode's number is read back as the mode
pub mode_back : (m : SaharaMode) → mode_of (mode_number m) ≡ Ok m
unfolding mode_of
mode_back M.WaitingForImage = refl
mode_back M.ImageTransferComplete = refl
mode_back M.MemoryDebug = refl
mode_back M.Command = refl

-- a command's number is read back as the command
pub command_back : (c : SaharaCmdModeCmd) → command_of (command_number c) ≡ Ok c
unfolding command_of
command_back E.Nop = refl
command_back E.ReadSerialNum = refl
command_back E.ReadHwId = refl
command_back E.ReadOemKeyHash = refl

-- modes and commands have the numbers 0 to 3: by these, and by any other
pub by_four : (A : ℕ → Type 0) (n : ℕ) → A 0 → A 1 → A 2 → A 3
    → (eqb n 0 ≡ false → eqb n 1 ≡ false → eqb n 2 ≡ false → eqb n 3 ≡ false → A n)
    → A n
by_four A n a0 a1 a2 a3 other =
    by_test (eqb n 0) (λ e. rw (eqb-true n 0 e) a0)
    (λ e0. by_test (eqb n 1) (λ e. rw (eqb-true n 1 e) a1)
    (λ e1. by_test (eqb n 2) (λ e. rw (eqb-true n 2 e) a2)
    (λ e2. by_test (eqb n 3) (λ e. rw (eqb-true n 3 e) a3) (other e0 e1 e2))))

-- so each is found by its number, some other by any other number
abbrev pub mode_is : Result SaharaMode Refusal → SaharaMode
mode_is (Ok m) = m
mode_is (Err why) = M.Command

abbrev pub command_is : Result SaharaCmdModeCmd Refusal → SaharaCmdModeCmd
command_is (Ok c) = c
command_is (Err why) = E.Nop

pub mode_again : (m : SaharaMode) → mode_is (mode_of (mode_number m)) ≡ m
mode_again m = rw (mode_back m) refl

pub command_again : (c : SaharaCmdModeCmd) → command_is (command_of (command_number c)) ≡ c
command_again c = rw (command_back c) refl

-- a kind's number is of that kind's class
pub kind_back : (k : SaharaCmd) → class_of (kind_number k) ≡ C.Kind k
unfolding class_of kinds
kind_back K.Hello = refl
kind_back K.HelloResp = refl
kind_back K.ReadData = refl
kind_back K.EndOfImage = refl
kind_back K.Done = refl
kind_back K.DoneResp = refl
kind_back K.ResetResp = refl
kind_back K.MemDebug = refl
kind_back K.MemRead = refl
kind_back K.CommandReady = refl
kind_back K.ExecuteResp = refl
kind_back K.ExecuteData = refl
kind_back K.MemDebug64 = refl
kind_back K.MemRead64 = refl
kind_back K.ReadData64 = refl

-- each of a list is below b
abbrev pub below : ℕ → List ℕ → Bool
below b [] = true
below b (k ∷ ks) = pick (ltb k b) (below b ks) false

-- a number that is not below b is none of them
pub among_above : (b n : ℕ) (ks : List ℕ) → T (below b ks) → b ≤ n → among n ks ≡ false
among_above b n [] t h = refl
among_above b n (k ∷ ks) t h =
    let l : k < b = ltb→lt k b (both_left (ltb k b) (below b ks) t) in
    rw (ne_eqb n k (λ q. omega arith), among_above b n ks (both_right (ltb k b) (below b ks) t) h) refl

abbrev pub kinds_below : ℕ → List SaharaCmd → Bool
kinds_below b [] = true
kinds_below b (k ∷ ks) = pick (ltb (kind_number k) b) (kinds_below b ks) false

pub kind_above : (b n : ℕ) (ks : List SaharaCmd) (other : Class) → T (kinds_below b ks) → b ≤ n → kind_among n ks other ≡ other
kind_above b n [] other t h = refl
kind_above b n (k ∷ ks) other t h =
    let l : kind_number k < b = ltb→lt (kind_number k) b (both_left (ltb (kind_number k) b) (kinds_below b ks) t) in
    rw (ne_eqb n (kind_number k) (λ q. omega arith), kind_above b n ks other (both_right (ltb (kind_number k) b) (kinds_below b ks) t) h) refl

abbrev pub is_unimplemented : Class → Bool
is_unimplemented (C.Kind k) = false
is_unimplemented C.Xml = false
is_unimplemented C.Unimplemented = true
is_unimplemented C.Unknown = false

pub unimplemented_is : (c : Class) → T (is_unimplemented c) → C.Unimplemented ≡ c
unimplemented_is (C.Kind k) t = absurd t
unimplemented_is C.Xml t = absurd t
unimplemented_is C.Unimplemented t = refl
unimplemented_is C.Unknown t = absurd t
