-- The laws of sessions as numbers: `session_back`, `session_is` and `raw_back`; and `opened_is`. By the cases of modes, commands, backends and phases,
-- and by the tests. Assumes nothing.
use mathlib.Core.Path.{◌≡◌, refl, sym, ap, ◌∙◌}
use mathlib.Core.Bool.{Bool, true, false, true≢false}
use Prim.Native.Nat.{ℕ}
use native.Mathlib.Omega.{arith}
use borrow.Author.Tests.{eqb-true, eqb-false, ltb-true}
use lib.Dec.{ltb, eqb}
use Rattle.base.specs.Choice.{pick}
use Rattle.base.proofs.Ranges.{by_test, by_then}
use Rattle.std.specs.Result.{result_unwrap_or}
use Rattle.field.specs.Width.{width_named}
use Rattle.field.specs.declared.Width.{Width}
use Rattle.field.specs.declared.Width.TheVariants as WI
use Rattle.command.specs.Command.{mode_number, mode_of, command_of}
use Rattle.command.specs.declared.SaharaMode.{SaharaMode}
use Rattle.command.proofs.Laws.{mode_back, command_back, by_four}
use Rattle.verdict.specs.declared.QdlBackend.{QdlBackend}
use Rattle.verdict.specs.declared.QdlBackend.TheVariants as U
use Rattle.verdict.specs.declared.Opening.{Opening}
use Rattle.session.specs.declared.Phase.{Phase}
use Rattle.session.specs.declared.Phase.TheVariants as P
use Rattle.session.specs.declared.Session.{Session}
use Rattle.session.specs.declared.Answer.TheVariants as A
use Rattle.session.specs.Outcome.{gives}
use Rattle.raw.specs.Raw.{
  backend_number,
  exec_number,
  mode_in,
  exec_in,
  backend_of,
  opening_of,
  is_mode,
  is_exec,
  is_opening,
  width_number,
  width_of,
  is_width,
  counts,
  counts_of,
  phase_of,
  no_region,
  no_place,
  is_phase,
  raw_with,
  raw_of,
  session_of,
  is_session,
  bare,
  opened_raw,
  raw_stepped,
  refused_raw,
}
use Rattle.raw.specs.declared.Counts.{Counts}
use Rattle.raw.specs.declared.RawSession.{RawSession}
use Rattle.refusal.specs.declared.Refusal.{Refusal}
use Rattle.std.specs.Prelude.{Option, Some, None}
use Rattle.command.specs.declared.SaharaCmdModeCmd.{SaharaCmdModeCmd}

-- the width that a number is read as is that which it names, and 64 bits where it names none
pub width_read : (n : ℕ) → result_unwrap_or (width_named n) WI.Bits64 ≡ width_of n
width_read n = by_test (eqb n 32) (λ e. rw e refl) (λ e. by_test (eqb n 64) (λ f. rw (e, f) refl) (λ f. rw (e, f) refl))

-- ---- a session's numbers are read back as it

exec_back : (c : Option SaharaCmdModeCmd) → exec_in (command_of (exec_number c)) ≡ c
unfolding command_of
exec_back (Some c) = ap exec_in (command_back c)
exec_back None = refl

backend_back : (b : QdlBackend) → backend_of (backend_number b) ≡ b
backend_back U.Serial = refl
backend_back U.Usb = refl

pub opening_back : (u : Opening) → opening_of (mode_number u.mode) (exec_number u.command) (backend_number u.backend) ≡ u
opening_back u = rw (mode_back u.mode, exec_back u.command, backend_back u.backend) refl

width_back : (v : Width) → width_of (width_number v) ≡ v
width_back WI.Bits32 = refl
width_back WI.Bits64 = refl

bit_back : (b : Bool) → eqb (pick b 1 0) 1 ≡ b
bit_back true = refl
bit_back false = refl

phase_back : (s : Session) (p : Phase) → phase_of (raw_with s (counts_of p)) ≡ p
unfolding phase_of
phase_back s (P.Packet h) = refl
phase_back s (P.Response x) = refl
phase_back s (P.Switched k) = refl
phase_back s (P.Table x) = refl
phase_back s (P.Between k i) = refl
phase_back s (P.Region k x) = rw (bit_back x.due) refl
phase_back s (P.Ended k) = refl

pub session_back : (s : Session) → session_of (raw_of s) ≡ s
unfolding session_of raw_of
session_back s = rw (opening_back s.opening, width_back s.width, phase_back s s.phase) refl

-- ---- they are a session's

mode_is_lem : (m : SaharaMode) → is_mode (mode_number m) ≡ true
mode_is_lem m = rw (mode_back m) refl

exec_is : (c : Option SaharaCmdModeCmd) → is_exec (exec_number c) ≡ true
unfolding command_of
exec_is (Some c) = rw (command_back c) refl
exec_is None = refl

backend_is : (b : QdlBackend) → ltb (backend_number b) 2 ≡ true
backend_is U.Serial = refl
backend_is U.Usb = refl

width_is : (v : Width) → is_width (width_number v) ≡ true
width_is WI.Bits32 = refl
width_is WI.Bits64 = refl

phase_is : (s : Session) (p : Phase) → is_phase (raw_with s (counts_of p)) ≡ true
unfolding is_phase
phase_is s (P.Packet h) = refl
phase_is s (P.Response x) = refl
phase_is s (P.Switched k) = refl
phase_is s (P.Table x) = refl
phase_is s (P.Between k i) = refl
phase_is s (P.Region k x) = by_test x.due (λ e. rw e refl) (λ e. rw e refl)
phase_is s (P.Ended k) = refl

pub session_is : (s : Session) → is_session (raw_of s) ≡ true
unfolding is_session raw_of
session_is s =
    rw (mode_is_lem s.opening.mode, exec_is s.opening.command, backend_is s.opening.backend, width_is s.width) (phase_is s s.phase)

-- ---- numbers that are a session's are those of the session that they are read as

no : ◌≡◌ {A = Bool} false true → ⊥
no e = true≢false (sym e)

mode_kept : (n : ℕ) → is_mode n ≡ true → mode_number (mode_in (mode_of n)) ≡ n
unfolding mode_of
mode_kept n h =
    by_four (λ (k : ℕ). is_mode k ≡ true → mode_number (mode_in (mode_of k)) ≡ k) n (λ t. refl) (λ t. refl) (λ t. refl) (λ t. refl)
    (λ e0 e1 e2 e3 t. absurd (no (rw (e0, e1, e2, e3) at t))) h

exec_kept : (n : ℕ) → is_exec n ≡ true → exec_number (exec_in (command_of n)) ≡ n
unfolding command_of
exec_kept n h =
    by_four (λ (k : ℕ). is_exec k ≡ true → exec_number (exec_in (command_of k)) ≡ k) n (λ t. refl) (λ t. refl) (λ t. refl) (λ t. refl)
    (λ e0 e1 e2 e3 t. rw (e0, e1, e2, e3) (sym (eqb-true n 0xFFFFFFFF (rw (e0, e1, e2, e3) at t)))) h

below_two : (n : ℕ) → ltb n 2 ≡ true → eqb n 1 ≡ false → n ≡ 0
below_two n h e = omega (arith, ltb-true n 2 h, eqb-false n 1 e)

backend_kept : (n : ℕ) → ltb n 2 ≡ true → backend_number (backend_of n) ≡ n
backend_kept n h = by_test (eqb n 1) (λ e. rw (eqb-true n 1 e) refl) (λ e. rw (below_two n h e) refl)

width_kept : (n : ℕ) → is_width n ≡ true → width_number (width_of n) ≡ n
width_kept n h = by_test (eqb n 32) (λ e. rw (eqb-true n 32 e) refl) (λ e. rw e (sym (eqb-true n 64 (rw e at h))))

bit_kept : (n : ℕ) → ltb n 2 ≡ true → pick (eqb n 1) 1 0 ≡ n
bit_kept n h = by_test (eqb n 1) (λ e. rw (eqb-true n 1 e) refl) (λ e. rw (below_two n h e) refl)

-- the numbers of r that tell its phase
abbrev counts_in : RawSession → Counts
counts_in r =
    record {
      phase = r.phase;
      count = r.count;
      at = r.at;
      base = r.base;
      len = r.len;
      done = r.done;
      outstanding = r.outstanding;
      due = r.due;
    }

region_zero : (r : RawSession) (n : ℕ) → r.phase ≡ n → no_region r ≡ true → counts n r.count r.at ≡ counts_in r
region_zero r n p h =
    let b = by_then (eqb r.base 0) _ false no h in
    let l = by_then (eqb r.len 0) _ false no b.1 in
    let d = by_then (eqb r.done 0) _ false no l.1 in
    let o = by_then (eqb r.outstanding 0) _ false no d.1 in
    rw (
      p,
      eqb-true r.base 0 b.0,
      eqb-true r.len 0 l.0,
      eqb-true r.done 0 d.0,
      eqb-true r.outstanding 0 o.0,
      eqb-true r.due 0 o.1,
    ) refl

place_zero : (r : RawSession) (n : ℕ) → r.phase ≡ n → no_place r ≡ true → counts n r.count 0 ≡ counts_in r
place_zero r n p h =
    let a = by_then (eqb r.at 0) (no_region r) false no h in
    ap (counts n r.count) (sym (eqb-true r.at 0 a.0)) ∙ region_zero r n p a.1

phase_kept : (r : RawSession) → is_phase r ≡ true → counts_of (phase_of r) ≡ counts_in r
unfolding phase_of is_phase
phase_kept r h =
    by_test (eqb r.phase 0)
    (λ e. rw e (place_zero r 0 (eqb-true r.phase 0 e) (rw e at h)))
    (λ e0. by_test (eqb r.phase 1)
    (λ e. rw (e0, e) (region_zero r 1 (eqb-true r.phase 1 e) (rw (e0, e) at h)))
    (λ e1. by_test (eqb r.phase 2)
    (λ e. rw (e0, e1, e) (place_zero r 2 (eqb-true r.phase 2 e) (rw (e0, e1, e) at h)))
    (λ e2. by_test (eqb r.phase 3)
    (λ e. rw (e0, e1, e2, e) (region_zero r 3 (eqb-true r.phase 3 e) (rw (e0, e1, e2, e) at h)))
    (λ e3. by_test (eqb r.phase 4)
    (λ e. rw (e0, e1, e2, e3, e) (region_zero r 4 (eqb-true r.phase 4 e) (rw (e0, e1, e2, e3, e) at h)))
    (λ e4. by_test (eqb r.phase 5)
    (λ e. rw (e0, e1, e2, e3, e4, e) (rw (eqb-true r.phase 5 e, bit_kept r.due (rw (e0, e1, e2, e3, e4, e) at h)) refl))
    (λ e5. by_test (eqb r.phase 6)
    (λ e. rw (e0, e1, e2, e3, e4, e5) (place_zero r 6 (eqb-true r.phase 6 e) (rw (e0, e1, e2, e3, e4, e5, e) at h)))
    (λ e6. absurd (no (rw (e0, e1, e2, e3, e4, e5, e6) at h)))))))))

pub raw_back : (r : RawSession) → is_session r ≡ true → raw_of (session_of r) ≡ r
unfolding is_session raw_of session_of
raw_back r h =
    let a = by_then (is_opening r.mode r.command r.backend) _ false no h in
    let m = by_then (is_mode r.mode) _ false no a.0 in
    let x = by_then (is_exec r.command) _ false no m.1 in
    let v = by_then (is_width r.width) (is_phase r) false no a.1 in
    rw (
      mode_kept r.mode m.0,
      exec_kept r.command x.0,
      backend_kept r.backend x.1,
      width_kept r.width v.0,
      phase_kept r v.1,
    )
    refl

-- a session's refusal, told: its numbers as they were
pub refused_told : (r : RawSession) (why : Refusal) → is_session r ≡ true → refused_raw r why ≡ raw_stepped (gives (session_of r) 0 (A.Refused why))
unfolding raw_stepped
refused_told r why e = rw (raw_back r e) refl

-- ---- a session just opened

pub opened_bare : (m c b : ℕ) → bare m c b ≡ opened_raw m c b
unfolding raw_of opened_raw
opened_bare m c b =
    by_test (is_opening m c b)
    (λ h.
    let k = by_then (is_mode m) _ false no h in
    let x = by_then (is_exec c) _ false no k.1 in
    rw (h, mode_kept m k.0, exec_kept c x.0, backend_kept b x.1) refl)
    (λ h. rw h refl)

bare_is : (m c b : ℕ) → is_session (bare m c b) ≡ is_opening m c b
unfolding is_session is_phase
bare_is m c b = by_test (is_opening m c b) (λ e. rw e refl) (λ e. rw e refl)

-- it is a session just where the numbers name an opening
pub opened_is : (m c b : ℕ) → is_session (opened_raw m c b) ≡ is_opening m c b
opened_is m c b = rw (← opened_bare m c b) (bare_is m c b)
