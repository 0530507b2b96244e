-- The tidy form of an image set. Document 02, request 6: "Write the tidy form: data in slot order, each present image's bytes once for its slot, no gaps, an empty
-- image starting where the bytes before it end (so in every bundle we write), absent slots marked .. 28 when the set is malformed, checked first. 29 when the tidy
-- form does not fit the lent buffer or passes 2^32 - 2 data bytes (an empty image must not start at the absent mark), buffer untouched." Request 7, in the place of
-- "trailing absent slots dropped": "tidying preserves the count". What a bundle of these slots looks like: writer/specs/Writer.
use Rattle.std.specs.Prelude.{ℕ, zero, suc, true, List, [], ◌∷◌, ◌++◌, ltb, length, drop, Result, Ok, Err}
use Rattle.base.specs.Choice.{pick}
use Rattle.base.specs.Told.{Told}
use Rattle.bundle.specs.Bundle.{count_of, well_formed}
use Rattle.bundle.specs.Content.{Content, content_of}
use Rattle.writer.specs.Writer.{data_of, bundle_bytes, most_data}
use Rattle.refusal.specs.Refusal.{made_told}
use Rattle.refusal.specs.declared.Refusal.{Refusal}

-- the contents of the first k slots, in slot order
unfoldable pub first_contents : List ℕ → ℕ → List Content
first_contents set zero = []
first_contents set (suc k) = first_contents set k ++ content_of set k ∷ []

-- of all slots: "tidying preserves the count"
abbrev pub contents_of : List ℕ → List Content
contents_of set = first_contents set (count_of set)

-- the tidy form, and its data bytes
abbrev pub tidy_bytes : List ℕ → List ℕ
tidy_bytes set = bundle_bytes (contents_of set)

abbrev pub tidy_data : List ℕ → ℕ
tidy_data set = length (data_of (contents_of set))

-- how long it is: "28 when the set is malformed, checked first. 29 when the tidy form .. passes 2^32 - 2 data bytes"
unfoldable pub tidy_len_of : List ℕ → Result ℕ Refusal
tidy_len_of set = pick (well_formed true set) (pick (ltb most_data (tidy_data set)) (Err Refusal.TidyRoom) (Ok (length (tidy_bytes set)))) (Err Refusal.TidySet)

-- a whole outcome: the answer, and the buffer afterwards
pub record TidyOutcome : Type 0 where
  pub tidied : Result ℕ Refusal
  pub to : List ℕ

abbrev pub tidy_outcome : Result ℕ Refusal → List ℕ → TidyOutcome
tidy_outcome x to = record { tidied = x; to = to }

-- a form of this length in a buffer: "29 when the tidy form does not fit the lent buffer .., buffer untouched", else it is the buffer's first bytes
abbrev pub placed : List ℕ → List ℕ → Result ℕ Refusal → TidyOutcome
placed form to (Err why) = tidy_outcome (Err why) to
placed form to (Ok k) = pick (ltb (length to) k) (tidy_outcome (Err Refusal.TidyRoom) to) (tidy_outcome (Ok k) (form ++ drop k to))

-- the tidy form of a set in a buffer
unfoldable pub tidy_of : List ℕ → List ℕ → TidyOutcome
tidy_of set to = placed (tidy_bytes set) to (tidy_len_of set)

-- what the answer tells: an operation that accepts tells go, here with the form's length
abbrev pub tidied_told : Result ℕ Refusal → Told
tidied_told = made_told

abbrev pub tidy_told : TidyOutcome → Told
tidy_told x = tidied_told x.tidied
