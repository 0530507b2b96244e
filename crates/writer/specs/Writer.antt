-- A bundle written from its slots' contents. Document 01, Records, "Bundle": "Slot count n (4 bytes, 0..64), data size d (4 bytes), n starts, n lengths (4 bytes
-- each), d data bytes"; "Start 0xFFFFFFFF with length 0 means absent". Document 02, request 6: "data in slot order, each present image's bytes once for its slot,
-- no gaps, an empty image starting where the bytes before it end (so in every bundle we write), absent slots marked". What a slot holds: bundle/specs/Content.
use Rattle.std.specs.Prelude.{ℕ, ◌+◌, List, [], ◌∷◌, ◌++◌, map, length}
use Rattle.std.proofs.Math.Option.{none, some}
use Rattle.field.specs.Field.{words}
use Rattle.bundle.specs.Content.{Content, bytes_in, size_in}

-- "data in slot order, each present image's bytes once for its slot, no gaps"
unfoldable pub data_of : List Content → List ℕ
data_of [] = []
data_of (x ∷ xs) = bytes_in x ++ data_of xs

-- the start of a slot before which so many bytes stand: there, "an empty image" too; "absent slots marked"
abbrev pub start_for : ℕ → Content → ℕ
start_for before none = 0xFFFFFFFF
start_for before (some s) = before

-- the starts of slots one behind the other, so many bytes standing before the first
unfoldable pub starts_from : ℕ → List Content → List ℕ
starts_from before [] = []
starts_from before (x ∷ xs) = start_for before x ∷ starts_from (before + size_in x) xs

-- slot count, data size, starts, lengths, data
unfoldable pub bundle_bytes : List Content → List ℕ
bundle_bytes xs = words (length xs ∷ length (data_of xs) ∷ []) ++ words (starts_from 0 xs) ++ words (map size_in xs) ++ data_of xs

-- the most data bytes: "an empty image must not start at the absent mark"
abbrev pub most_data : ℕ
most_data = 0xFFFFFFFE
