-- Laws of decoding: what the proofs of the functions share; it looks at no more than the first 48 bytes; what it accepts has at least the kind's
-- least body. The last two go by the kind. Assumes nothing.
use mathlib.Core.Path.{◌≡◌, refl, sym, ◌∙◌}
use mathlib.Core.List.{List}
use mathlib.Core.Logic.{⊎_elim}
use Prim.Native.Nat.{ℕ, ◌+◌, ◌≤◌, ◌<◌}
use native.Mathlib.Omega.{arith}
use borrow.Author.Tests.{le-ltb, lt-ltb}
use lib.Dec.{ltb, lit≤}
use lib.ListN.{length, take, drop, length-take}
use Rattle.base.proofs.Ranges.{below_or_not, by_test}
use Rattle.field.specs.Field.{le}
use Rattle.field.proofs.Laws.{le_within}
use Rattle.command.specs.Command.{least_body, mode_of, command_of, class_of}
use Rattle.command.specs.declared.SaharaCmd.{SaharaCmd}
use Rattle.command.specs.declared.SaharaCmd.TheVariants as K
use Rattle.command.specs.declared.SaharaMode.{SaharaMode}
use Rattle.command.specs.declared.SaharaCmdModeCmd.{SaharaCmdModeCmd}
use Rattle.command.specs.declared.Class.{Class}
use Rattle.command.specs.declared.Class.TheVariants as C
use Rattle.packet.specs.Packet.{
  command_field,
  length_field,
  word,
  unk_of,
  hello_of,
  hello_resp_of,
  exec_resp_of,
  exec_data_of,
  body_of,
  kind_of,
  packet_with,
  by_class,
  decode_of,
  kind_in,
}
use Rattle.packet.specs.declared.SaharaPacket.{SaharaPacket}
use Rattle.std.specs.Prelude.{Result, Ok, Err}
use Rattle.refusal.specs.declared.Refusal.{Refusal}
use Rattle.packet.specs.declared.SaharaPacketBody.{SaharaPacketBody}

-- a body that is short is malformed; one that is not is read
module _ (k : SaharaCmd) (p : List ℕ) where
  pub short_body : length p < 8 + least_body k → kind_of p k ≡ (Err Refusal.Body)
  unfolding kind_of
  short_body h = simp (lt-ltb _ _ h)

  pub whole_body : 8 + least_body k ≤ length p → kind_of p k ≡ body_of p k
  unfolding kind_of
  whole_body h = simp (le-ltb _ _ h)

-- a length below m is the same test after the first n bytes are taken
short_window : (n m : ℕ) (p : List ℕ) → m ≤ n → ltb (length (take n p)) m ≡ ltb (length p) m
short_window n m p h =
    ⊎_elim
    (λ (e : length p < m). lt-ltb (length (take n p)) m (rw length-take (omega arith)) ∙ sym (lt-ltb (length p) m e))
    (λ (e : m ≤ length p). le-ltb (length (take n p)) m (rw length-take (omega arith)) ∙ sym (le-ltb (length p) m e))
    (below_or_not (length p) m)

field_window : (w at : ℕ) (p : List ℕ) → at + w ≤ 48 → le w (drop at (take 48 p)) ≡ le w (drop at p)
field_window w at p h = le_within w at 48 p h

pub least_fits : (k : SaharaCmd) → 8 + least_body k ≤ 48
least_fits K.Hello = lit≤ tt
least_fits K.HelloResp = lit≤ tt
least_fits K.ReadData = lit≤ tt
least_fits K.EndOfImage = lit≤ tt
least_fits K.Done = lit≤ tt
least_fits K.DoneResp = lit≤ tt
least_fits K.ResetResp = lit≤ tt
least_fits K.MemDebug = lit≤ tt
least_fits K.MemRead = lit≤ tt
least_fits K.CommandReady = lit≤ tt
least_fits K.ExecuteResp = lit≤ tt
least_fits K.ExecuteData = lit≤ tt
least_fits K.MemDebug64 = lit≤ tt
least_fits K.MemRead64 = lit≤ tt
least_fits K.ReadData64 = lit≤ tt

module _ (p : List ℕ) where
  len_window : le 4 (drop 4 (take 48 p)) ≡ le 4 (drop 4 p)
  len_window = field_window 4 4 p (lit≤ tt)

  w0 : le 4 (drop 8 (take 48 p)) ≡ le 4 (drop 8 p)
  w0 = field_window 4 8 p (lit≤ tt)

  w1 : le 4 (drop 12 (take 48 p)) ≡ le 4 (drop 12 p)
  w1 = field_window 4 12 p (lit≤ tt)

  w2 : le 4 (drop 16 (take 48 p)) ≡ le 4 (drop 16 p)
  w2 = field_window 4 16 p (lit≤ tt)

  mode_window : le 4 (drop 20 (take 48 p)) ≡ le 4 (drop 20 p)
  mode_window = field_window 4 20 p (lit≤ tt)

  unk_window : unk_of (take 48 p) ≡ unk_of p
  unk_window =
      simp (
        field_window 4 24 p (lit≤ tt),
        field_window 4 28 p (lit≤ tt),
        field_window 4 32 p (lit≤ tt),
        field_window 4 36 p (lit≤ tt),
        field_window 4 40 p (lit≤ tt),
        field_window 4 44 p (lit≤ tt),
      )

  hello_window : (m : Result SaharaMode Refusal) → hello_of (take 48 p) m ≡ hello_of p m
  hello_window (Ok m) = rw (w0, w1, w2, unk_window) refl
  hello_window (Err why) = refl

  hello_resp_window : (m : Result SaharaMode Refusal) → hello_resp_of (take 48 p) m ≡ hello_resp_of p m
  hello_resp_window (Ok m) = rw (w0, w1, w2, unk_window) refl
  hello_resp_window (Err why) = refl

  exec_resp_window : (c : Result SaharaCmdModeCmd Refusal) → exec_resp_of (take 48 p) c ≡ exec_resp_of p c
  exec_resp_window (Ok c) = rw w1 refl
  exec_resp_window (Err why) = refl

  exec_data_window : (c : Result SaharaCmdModeCmd Refusal) → exec_data_of (take 48 p) c ≡ exec_data_of p c
  exec_data_window (Ok c) = refl
  exec_data_window (Err why) = refl

  body_window : (k : SaharaCmd) → body_of (take 48 p) k ≡ body_of p k
  body_window K.Hello = rw (mode_window, hello_window (mode_of (le 4 (drop 20 p)))) refl
  body_window K.HelloResp = rw (mode_window, hello_resp_window (mode_of (le 4 (drop 20 p)))) refl
  body_window K.ReadData = simp (w0, w1, w2)
  body_window K.EndOfImage = simp (w0, w1)
  body_window K.Done = refl
  body_window K.DoneResp = simp (w0)
  body_window K.ResetResp = refl
  body_window K.MemDebug = simp (w0, w1)
  body_window K.MemRead = simp (w0, w1)
  body_window K.CommandReady = refl
  body_window K.ExecuteResp = rw (w0, exec_resp_window (command_of (le 4 (drop 8 p)))) refl
  body_window K.ExecuteData = rw (w0, exec_data_window (command_of (le 4 (drop 8 p)))) refl
  body_window K.MemDebug64 = simp (field_window 8 8 p (lit≤ tt), field_window 8 16 p (lit≤ tt))
  body_window K.MemRead64 = simp (field_window 8 8 p (lit≤ tt), field_window 8 16 p (lit≤ tt))
  body_window K.ReadData64 = simp (field_window 8 8 p (lit≤ tt), field_window 8 16 p (lit≤ tt), field_window 8 24 p (lit≤ tt))

  kind_window : (k : SaharaCmd) → kind_of (take 48 p) k ≡ kind_of p k
  unfolding kind_of
  kind_window k = rw (short_window 48 (8 + least_body k) p (least_fits k), body_window k) refl

  class_window : (c : Class) → by_class (take 48 p) c ≡ by_class p c
  class_window (C.Kind k) = rw (len_window, kind_window k) refl
  class_window C.Xml = refl
  class_window C.Unimplemented = refl
  class_window C.Unknown = refl

  -- decoding looks at no more than the first 48 bytes
  pub window : decode_of (take 48 p) ≡ decode_of p
  unfolding decode_of
  window = rw (short_window 48 8 p (lit≤ tt), field_window 4 0 p (lit≤ tt), class_window (class_of (command_field p))) refl

-- ---- what is accepted

-- a body is of its kind
abbrev kind_or : SaharaCmd → Result SaharaPacketBody Refusal → SaharaCmd
kind_or k (Ok b) = kind_in b
kind_or k (Err why) = k

by_result : {A : Type 0} (P : Result A Refusal → Type 0) → ((a : A) → P (Ok a)) → ((why : Refusal) → P (Err why)) → (x : Result A Refusal) → P x
by_result P is bad (Ok a) = is a
by_result P is bad (Err why) = bad why

body_kind : (p : List ℕ) (k : SaharaCmd) → kind_or k (body_of p k) ≡ k
body_kind p K.Hello = by_result (λ m. kind_or K.Hello (hello_of p m) ≡ K.Hello) (λ m. refl) (λ why. refl) (mode_of (word p 3))
body_kind p K.HelloResp = by_result (λ m. kind_or K.HelloResp (hello_resp_of p m) ≡ K.HelloResp) (λ m. refl) (λ why. refl) (mode_of (word p 3))
body_kind p K.ReadData = refl
body_kind p K.EndOfImage = refl
body_kind p K.Done = refl
body_kind p K.DoneResp = refl
body_kind p K.ResetResp = refl
body_kind p K.MemDebug = refl
body_kind p K.MemRead = refl
body_kind p K.CommandReady = refl
body_kind p K.ExecuteResp = by_result (λ c. kind_or K.ExecuteResp (exec_resp_of p c) ≡ K.ExecuteResp) (λ c. refl) (λ why. refl) (command_of (word p 0))
body_kind p K.ExecuteData = by_result (λ c. kind_or K.ExecuteData (exec_data_of p c) ≡ K.ExecuteData) (λ c. refl) (λ why. refl) (command_of (word p 0))
body_kind p K.MemDebug64 = refl
body_kind p K.MemRead64 = refl
body_kind p K.ReadData64 = refl

-- an accepted packet: its command number is its kind's, its body has at least the kind's least bytes, its length field is handed on
pub record Accepted (p : List ℕ) (q : SaharaPacket) : Type 0 where
  pub kind : class_of (command_field p) ≡ C.Kind (kind_in q.body)
  pub least : 8 + least_body (kind_in q.body) ≤ length p
  pub len : q.len ≡ length_field p

module _ (p : List ℕ) (q : SaharaPacket) where
  by_body : (k : SaharaCmd) (b : Result SaharaPacketBody Refusal) → kind_or k b ≡ k → packet_with (length_field p) b ≡ Ok q → (kind_in q.body ≡ k) × (q.len ≡ length_field p)
  by_body k (Ok b) e h =
      let r : record { len = length_field p; body = b } ≡ q = cc in
      rw (← r) (e, refl)
  by_body k (Err why) e h = let z : ◌≡◌ {A = ℕ} 0 1 = cc in absurd (omega arith)

  never : (why : Refusal) → Err why ≡ Ok q → ⊥
  never why h = let z : ◌≡◌ {A = ℕ} 0 1 = cc in omega arith

  by_kind : (k : SaharaCmd) → class_of (command_field p) ≡ C.Kind k → packet_with (length_field p) (kind_of p k) ≡ Ok q → Accepted p q
  by_kind k c h =
      ⊎_elim
      (λ (l : length p < 8 + least_body k). absurd (never _ (rw (short_body k p l) at h)))
      (λ (l : 8 + least_body k ≤ length p).
      let r = by_body k (body_of p k) (body_kind p k) (rw (whole_body k p l) at h) in
      record { kind = rw r.0 c; least = rw r.0 l; len = r.1 })
      (below_or_not (length p) (8 + least_body k))

  by_class_lem : (c : Class) → class_of (command_field p) ≡ c → by_class p c ≡ Ok q → Accepted p q
  by_class_lem (C.Kind k) c h = by_kind k c h
  by_class_lem C.Xml c h = absurd (never _ h)
  by_class_lem C.Unimplemented c h = absurd (never _ h)
  by_class_lem C.Unknown c h = absurd (never _ h)

  pub accepted : decode_of p ≡ Ok q → Accepted p q
  unfolding decode_of
  accepted h =
      by_test (ltb (length p) 8) (λ e. absurd (never _ (rw e at h))) (λ e. by_class_lem (class_of (command_field p)) refl (rw e at h))
