-- The theorem goes over from one host to another that gives the same, and so to the C interface, for every choice of calls. Assumes nothing.
use mathlib.Core.Path.{sym, ap, subst, ◌∙◌}
use mathlib.Core.List.{List, ◌++◌}
use Prim.Native.Nat.{ℕ}
use Rattle.entry.specs.declared.RamdumpTable64.{RamdumpTable64}
use Rattle.verdict.specs.declared.Opening.{Opening}
use Rattle.session.specs.declared.Session.{Session}
use Rattle.raw.specs.Raw.{session_of}
use Rattle.raw.proofs.Laws.{session_back}
use Rattle.steps.specs.Steps.{final}
use Rattle.steps.proofs.Steps.{final_related, fair_related}
use Rattle.fetch.specs.Device.{Host, definitions, Lent, World, start, next}
use Rattle.fetch.proofs.Simulation.{Alike, Both, both_start, both_made, both_kept, same_reports}
use Rattle.fetch_raw.specs.Calls.{Call, calling}
use Rattle.fetch_raw.proofs.Theorem.{Numbers, opened_alike, call_alike}
use Rattle.fetch_forecast.specs.Claim.{Decodes, Lends, Foretells}
use Rattle.fetch_forecast_raw.specs.Raw.{DecodesRaw}
use Rattle.fetch_forecast.proofs.Theorem.{foretold}

-- where two hosts' states stay related and their steps give the same but for the state, and related states decode alike
pub foretells_carried : (h k : Host) (R : h.State → k.State → Type 0) (fresh : (u : Opening) → R (h.fresh u) (k.fresh u))
    (step : (s : h.State) (s' : k.State) (d set names t y o : List ℕ) → R s s'
    → Alike R (h.step s d set names t y o) (k.step s' d set names t y o))
    (D : h.State → List ℕ → List RamdumpTable64 → Type 0) (D' : k.State → List ℕ → List RamdumpTable64 → Type 0)
    → ((s : h.State) (s' : k.State) (b : List ℕ) (es : List RamdumpTable64) → R s s' → D' s' b es → D s b es)
    → Foretells h D → Foretells k D'
foretells_carried h k R fresh step D D' back f c before behind g es t regions bytes reads e l m j r =
    let x = both_start h k R fresh step c in
    let lends : (w : World h.State) (v : World k.State) (i : Lent) → Both h k R fresh step c w v → Lends k c v i → Lends h c w i =
    λ w v i b z. rw (both_made h k R fresh step c w v i b).answer z in
    let w : World h.State = final (next h c) (start h c) before in
    let v : World k.State = final (next k c) (start k c) before in
    let y : Both h k R fresh step c w v =
    final_related (next h c) (next k c) (Both h k R fresh step c) (both_kept h k R fresh step c) before (start h c) (start k c) x in
    let q = same_reports h k R fresh step c (before ++ behind) in
    let z =
    f c before behind
    (fair_related (next h c) (next k c) (Both h k R fresh step c) (both_kept h k R fresh step c) (Lends h c) (Lends k c) lends (before ++ behind) (start h c)
    (start k c) x g)
    es (back w.state v.state w.table es y.state (rw y.table t)) regions bytes reads e l m j (q ∙ r) in
    record { regions_are = rw (← q) z.regions_are; bytes_are = rw (← q) z.bytes_are; reads_are = z.reads_are }

pub foretold_raw : (choice : ℕ → Call) → Foretells (calling choice) DecodesRaw
foretold_raw choice =
    foretells_carried definitions (calling choice) Numbers (opened_alike choice) (call_alike choice) Decodes DecodesRaw
    (λ s k b es e d. subst (λ (z : Session). Decodes z b es) (ap session_of (sym e) ∙ session_back s) d) foretold
