use Prim.Native.Nat.{ℕ, ◌<◌}
use mathlib.Core.Path.{refl, sym, ap, ◌∙◌}
use native.Mathlib.Omega.{arith}
use Rattle.rules.proofs.Counting.Below.{none_more}
use Rattle.engine.specs.Look.{alone}
use Rattle.engine.proofs.Fives.{array_of, same_phase, same_sender}
use Rattle.engine.proofs.Refusing.{clean_low}
use Rattle.engine.proofs.Looking.{said_of, look_with, sees, late_known, sees_late, goes_on}
use Rattle.engine.proofs.look.Look.with_late.Goals.{then-self-phase_in-via-then-self-phase_in, then-self-phase_in-via-else-self-phase_in+then-is_refused_late}
use Rattle.engine.proofs.look.Look.with_late.Goals as goal

pub loop-i-init : goal.loop-i-init
loop-i-init c = let pre = c.requires.looks in (pre.1, sees _ _ _ _ pre.2)

pub returns-then-self-phase_in : goal.returns-then-self-phase_in
returns-then-self-phase_in c =
    let here = array_of c.loop-i.i c.as_chunks.ensures.front (omega (arith, c.loop-i-test.true, c.as_chunks.ensures.front_len)) in
    goes_on c.args.head c.args.ballots.now (λ p q. p < q) c.args.self _ _ _ _ (said_of c.args.self) _ refl
    c.loop-i.auto.i (omega (arith, c.loop-i-test.true, c.as_chunks.ensures.front_len)) c.loop-i.invariant.0 c.loop-i.invariant.1
    (λ b q. elim c.then-self-phase_in.branch [
      | then-self-phase_in-via-then-self-phase_in w ↦ absurd (omega (arith, q, w.if-self-phase_in.true, c.phase_in.ensures, same_phase here))
      | then-self-phase_in-via-else-self-phase_in+then-is_refused_late w ↦ sym w.is_refused_late.ensures ∙ w.if-is_refused_late.true
    ])

pub alone-elsewhere-requires : goal.alone-elsewhere-requires
alone-elsewhere-requires c =
    let here = array_of c.loop-i.i c.as_chunks.ensures.front (omega (arith, c.loop-i-test.true, c.as_chunks.ensures.front_len)) in
    omega (arith, c.sender_in.ensures, same_sender here, clean_low _ _ _ c.requires.fits (sym c.is_refused_late.ensures ∙ c.if-is_refused_late.false))

pub loop-i-preserved : goal.loop-i-preserved
loop-i-preserved c =
    let here = array_of c.loop-i.i c.as_chunks.ensures.front (omega (arith, c.loop-i-test.true, c.as_chunks.ensures.front_len)) in (
      none_more c.loop-i.invariant.0 (sym c.is_refused_late.ensures ∙ c.if-is_refused_late.false),
      sees_late _ _ _ _ _ _ (said_of c.args.self) c.loop-i.invariant.1 _ (omega (arith, c.if-self-phase_in.false, c.phase_in.ensures, same_phase here)) (c.alone-elsewhere.ensures ∙ ap alone (c.sender_in.ensures ∙ same_sender here)),
    )

pub returns : goal.returns
returns c =
    let look = c.args.self in
    goes_on c.args.head c.args.ballots.now (λ p q. p < q) look _ _ _ _ (said_of look) _
    (ap (λ (k : ℕ). look_with k look.phase look.listed c.loop-i.elsewhere (said_of look)) (omega (arith, c.loop-i-test.false, c.loop-i.auto.i-end, c.requires.looks.0, c.as_chunks.ensures.front_len)))
    c.loop-i.auto.i (omega (arith, c.loop-i.auto.i-end, c.requires.looks.0, c.as_chunks.ensures.front_len)) c.loop-i.invariant.0 c.loop-i.invariant.1
    (λ b q. absurd (omega (arith, b, c.loop-i-test.false, c.as_chunks.ensures.front_len)))

pub is_refused_late-requires-clause-known_in : goal.is_refused_late-requires-clause-known_in
is_refused_late-requires-clause-known_in c =
    let here = array_of c.loop-i.i c.as_chunks.ensures.front (omega (arith, c.loop-i-test.true, c.as_chunks.ensures.front_len)) in
    late_known _ _ _ _ _ _ (said_of c.args.self) c.loop-i.invariant.1 (omega (arith, c.if-self-phase_in.false, c.phase_in.ensures, same_phase here))
