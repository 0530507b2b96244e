-- Table 3-7 told as code looks it up: the number of the row that a byte leads, and what that row has behind the lead byte.
use Rattle.std.specs.Prelude.{◌≡◌, ℕ, suc, ◌-◌, ◌<◌, ◌≤◌, List, [], ◌∷◌, length, get_or, eqb}
use Rattle.base.specs.Choice.{pick}
use Rattle.utf8_sequence.specs.declared.Follow.{Follow}
use Rattle.utf8.specs.Utf8.{Range, table, leads, after_first}

-- n bytes to come, the first of them low..high
abbrev pub follow : ℕ → ℕ → ℕ → Follow
follow n low high = record { 0 = n; 1 = low; 2 = high }

-- the ranges to come, as a row has them: their number and the first of them; zeros where nothing is to come
abbrev pub follow_of : List Range → Follow
follow_of [] = follow 0 0 0
follow_of (r ∷ rs) = follow (suc (length rs)) r.low r.high

-- what a byte leads: nothing, or a sequence, of which these bytes are to come
pub data Class : Type 0 where
  no_lead : Class
  lead : Follow → Class

-- a byte's class by the table
unfoldable pub lead_of : ℕ → Class
lead_of b = pick (leads table b) (lead (follow_of (after_first table b))) no_lead

-- the class that a digit stands for: '0' is no row, '1' the first of the rows, and so on
unfoldable pub class_of : List Follow → ℕ → Class
class_of rows d = pick (eqb d 0x30) no_lead (lead (get_or rows (d - 0x31) (follow 0 0 0)))

-- document 02, request 3: of 256 digits, indexed by the lead byte, and the rows that they number: each digit is one of '0'..'9' and stands for its byte's
-- class
unfoldable pub Rule : List ℕ → List Follow → Type 0
Rule digits rows = (b : ℕ) → b < 256 → (0x30 ≤ get_or digits b 0) × (get_or digits b 0 ≤ 0x39) × (class_of rows (get_or digits b 0) ≡ lead_of b)
