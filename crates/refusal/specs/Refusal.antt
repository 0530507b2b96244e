-- The refusals with their numbers. Document 01, "Refusals, operation by operation": 1 to 23; document 02: 24 (request 2), 25 (request 4), 26 and 27 (request
-- 5), 28 and 29 (request 6).
use Rattle.std.specs.Prelude.{ℕ, ◌-◌, List, [], ◌∷◌, Result, Ok, Err, get_or}
use Rattle.base.specs.Told.{Told, told, told_go, told_refused}
use Rattle.refusal.specs.declared.Refusal.{Refusal}
use Rattle.refusal.specs.declared.Refusal.TheVariants as Refusal

abbrev pub refusal_number : Refusal → ℕ
refusal_number Refusal.ImageSet = 1
refusal_number Refusal.NameList = 2
refusal_number Refusal.OutBuffer = 3
refusal_number Refusal.Ended = 4
refusal_number Refusal.PacketLength = 5
refusal_number Refusal.Unknown = 6
refusal_number Refusal.Xml = 7
refusal_number Refusal.NotImplemented = 8
refusal_number Refusal.Body = 9
refusal_number Refusal.HostPacket = 10
refusal_number Refusal.KindLength = 11
refusal_number Refusal.NoImage = 12
refusal_number Refusal.ImageEnd = 13
refusal_number Refusal.ImageStatus = 14
refusal_number Refusal.NoCommand = 15
refusal_number Refusal.ResponseLength = 16
refusal_number Refusal.TableLength = 17
refusal_number Refusal.Limit = 18
refusal_number Refusal.FilenameEnd = 19
refusal_number Refusal.Filename = 20
refusal_number Refusal.FilenameBytes = 21
refusal_number Refusal.RegionEnd = 22
refusal_number Refusal.Closed = 23
refusal_number Refusal.RegionEnd32 = 24
refusal_number Refusal.SheetPage = 25
refusal_number Refusal.ForecastNames = 26
refusal_number Refusal.ForecastSum = 27
refusal_number Refusal.TidySet = 28
refusal_number Refusal.TidyRoom = 29

-- each of them, in the order of their numbers; the refusal of a number
abbrev pub refusals : List Refusal
refusals =
    Refusal.ImageSet
    ∷ Refusal.NameList
    ∷ Refusal.OutBuffer
    ∷ Refusal.Ended
    ∷ Refusal.PacketLength
    ∷ Refusal.Unknown
    ∷ Refusal.Xml
    ∷ Refusal.NotImplemented
    ∷ Refusal.Body
    ∷ Refusal.HostPacket
    ∷ Refusal.KindLength
    ∷ Refusal.NoImage
    ∷ Refusal.ImageEnd
    ∷ Refusal.ImageStatus
    ∷ Refusal.NoCommand
    ∷ Refusal.ResponseLength
    ∷ Refusal.TableLength
    ∷ Refusal.Limit
    ∷ Refusal.FilenameEnd
    ∷ Refusal.Filename
    ∷ Refusal.FilenameBytes
    ∷ Refusal.RegionEnd
    ∷ Refusal.Closed
    ∷ Refusal.RegionEnd32
    ∷ Refusal.SheetPage
    ∷ Refusal.ForecastNames
    ∷ Refusal.ForecastSum
    ∷ Refusal.TidySet
    ∷ Refusal.TidyRoom
    ∷ []

abbrev pub refusal_of : ℕ → Refusal
refusal_of n = get_or refusals (n - 1) Refusal.ImageSet

-- what is told of what an operation gives, by t, or refuses
abbrev pub result_told : {A : Type 0} → (A → Told) → Result A Refusal → Told
result_told t (Ok a) = t a
result_told t (Err why) = told_refused (refusal_number why)

-- what an operation gives that accepts, and what one tells that accepts or refuses
abbrev pub accepted : Result Unit Refusal
accepted = Ok tt

abbrev pub accepted_told : Result Unit Refusal → Told
accepted_told = result_told (λ _. told_go)

-- and one that makes so many bytes: go, here with their count
abbrev pub made_told : Result ℕ Refusal → Told
made_told = result_told (λ k. told 0 (k ∷ []))
