-- A refusal is found again by its number; number and values tell apart what operations give or refuse, where they tell apart what is given. Assumes nothing.
use Rattle.std.proofs.Common.{refl}
use Rattle.std.specs.Prelude.{◌≡◌, ℕ, [], ◌∷◌, false, Result, Ok, Err, eqb, get_or}
use Rattle.base.specs.Choice.{pick}
use Rattle.base.specs.Told.{Told, told, told_go}
use Rattle.base.proofs.Telling.{apart}
use Rattle.refusal.specs.Refusal.{refusal_number, refusal_of, result_told, accepted_told, made_told}
use Rattle.refusal.specs.declared.Refusal.{Refusal}
use Rattle.refusal.specs.declared.Refusal.TheVariants as Refusal

pub refusal_back : (why : Refusal) → refusal_of (refusal_number why) ≡ why
refusal_back Refusal.ImageSet = refl
refusal_back Refusal.NameList = refl
refusal_back Refusal.OutBuffer = refl
refusal_back Refusal.Ended = refl
refusal_back Refusal.PacketLength = refl
refusal_back Refusal.Unknown = refl
refusal_back Refusal.Xml = refl
refusal_back Refusal.NotImplemented = refl
refusal_back Refusal.Body = refl
refusal_back Refusal.HostPacket = refl
refusal_back Refusal.KindLength = refl
refusal_back Refusal.NoImage = refl
refusal_back Refusal.ImageEnd = refl
refusal_back Refusal.ImageStatus = refl
refusal_back Refusal.NoCommand = refl
refusal_back Refusal.ResponseLength = refl
refusal_back Refusal.TableLength = refl
refusal_back Refusal.Limit = refl
refusal_back Refusal.FilenameEnd = refl
refusal_back Refusal.Filename = refl
refusal_back Refusal.FilenameBytes = refl
refusal_back Refusal.RegionEnd = refl
refusal_back Refusal.Closed = refl
refusal_back Refusal.RegionEnd32 = refl
refusal_back Refusal.SheetPage = refl
refusal_back Refusal.ForecastNames = refl
refusal_back Refusal.ForecastSum = refl
refusal_back Refusal.TidySet = refl
refusal_back Refusal.TidyRoom = refl

-- what is found again of a told answer, by a way back from what is given
abbrev pub result_from : {A : Type 0} → (Told → A) → Told → Result A Refusal
result_from back t = pick (eqb t.number 8) (Err (refusal_of (get_or t.values 0 0))) (Ok (back t))

pub result_back : {A : Type 0} (t : A → Told) (back : Told → A)
    → ((a : A) → eqb (t a).number 8 ≡ false)
    → ((a : A) → back (t a) ≡ a)
    → (x : Result A Refusal)
    → result_from back (result_told t x) ≡ x
result_back t back other h (Ok a) = rw (other a, h a) refl
result_back t back other h (Err why) = rw (refusal_back why) refl

pub result_apart : {A : Type 0} (t : A → Told) (back : Told → A)
    → ((a : A) → eqb (t a).number 8 ≡ false)
    → ((a : A) → back (t a) ≡ a)
    → (x y : Result A Refusal)
    → result_told t x ≡ result_told t y
    → x ≡ y
result_apart t back other h = apart (result_told t) (result_from back) (result_back t back other h)

pub accepted_apart : (x y : Result Unit Refusal) → accepted_told x ≡ accepted_told y → x ≡ y
accepted_apart = result_apart (λ _. told_go) (λ _. tt) (λ _. refl) (λ _. refl)

pub made_apart : (x y : Result ℕ Refusal) → made_told x ≡ made_told y → x ≡ y
made_apart = result_apart (λ k. told 0 (k ∷ [])) (λ t. get_or t.values 0 0) (λ _. refl) (λ _. refl)
