use Prim.Native.Nat.{ℕ}
use mathlib.Core.Path.{◌≡◌, refl, sym, ap, ◌∙◌}
use lib.ListN.{length-set}
use native.Mathlib.Omega.{arith}
use Rattle.rules.proofs.Counting.Below.{none_more}
use Rattle.engine.specs.Look.{alone, statuses_of}
use Rattle.engine.proofs.Fives.{array_of, same_sender, same_value, same_status, same_phase}
use Rattle.engine.proofs.Refusing.{low_sender, low_code, code_of, test_passed, test_failed, refused_present}
use Rattle.engine.proofs.Looking.{look_with, sees, phase_least, sees_present, goes_on}
use Rattle.engine.proofs.look.Look.with_present.Goals.{then-phase_in-self-via-then-phase_in-self, then-phase_in-self-via-else-phase_in-self+then-not-stands}
use Rattle.engine.proofs.look.Look.with_present.Goals as goal

pub barred_from-barred-requires-clause-phase_le_phase : goal.barred_from-barred-requires-clause-phase_le_phase
barred_from-barred-requires-clause-phase_le_phase c = phase_least _ _ _ _ c.requires.looks.2

pub loop-i-init : goal.loop-i-init
loop-i-init c = let pre = c.requires.looks in (refl, pre.1, sees _ _ _ _ pre.2)

pub returns-then-phase_in-self : goal.returns-then-phase_in-self
returns-then-phase_in-self c =
    let here = array_of c.loop-i.i c.as_chunks.ensures.front (omega (arith, c.loop-i-test.true, c.as_chunks.ensures.front_len)) in
    goes_on c.args.head c.args.ballots.now (λ p q. p ≡ q) c.args.self _ _ _ _ c.loop-i.said _ c.with_said.ensures
    c.loop-i.auto.i (omega (arith, c.loop-i-test.true, c.as_chunks.ensures.front_len)) c.loop-i.invariant.1 c.loop-i.invariant.2
    (λ b q. elim c.then-phase_in-self.branch [
      | then-phase_in-self-via-then-phase_in-self w ↦ absurd (w.if-phase_in-self.true (c.phase_in.ensures ∙ same_phase here ∙ q))
      | then-phase_in-self-via-else-phase_in-self+then-not-stands w ↦ test_failed c.args.head c.args.ballots.now c.loop-i.i here _ _ _ _ c.phase_in.ensures (c.statuses_of-statuses.ensures ∙ ap statuses_of c.class.ensures) w.stands.ensures w.if-not-stands.true q
    ])

pub place_in-place-requires : goal.place_in-place-requires
place_in-place-requires c =
    let here = array_of c.loop-i.i c.as_chunks.ensures.front (omega (arith, c.loop-i-test.true, c.as_chunks.ensures.front_len)) in
    let test = test_passed c.args.head c.args.ballots.now c.loop-i.i here _ _ _ _ c.phase_in.ensures (c.statuses_of-statuses.ensures ∙ ap statuses_of c.class.ensures) c.stands.ensures c.if-phase_in-self.false c.if-not-stands.false in
    omega (arith, same_value here, same_status here, low_code c.args.head.n c.args.ballots.now c.loop-i.i test.1)

pub is_refused-requires : goal.is_refused-requires
is_refused-requires c =
    let here = array_of c.loop-i.i c.as_chunks.ensures.front (omega (arith, c.loop-i-test.true, c.as_chunks.ensures.front_len)) in
    let test = test_passed c.args.head c.args.ballots.now c.loop-i.i here _ _ _ _ c.phase_in.ensures (c.statuses_of-statuses.ensures ∙ ap statuses_of c.class.ensures) c.stands.ensures c.if-phase_in-self.false c.if-not-stands.false in
    omega (arith, c.sender_in-sender.ensures, same_sender here, low_sender c.args.head.n c.args.ballots.now c.loop-i.i test.1, c.requires.fits.0)

pub returns-then-is_refused : goal.returns-then-is_refused
returns-then-is_refused c =
    let here = array_of c.loop-i.i c.as_chunks.ensures.front (omega (arith, c.loop-i-test.true, c.as_chunks.ensures.front_len)) in
    let test = test_passed c.args.head c.args.ballots.now c.loop-i.i here _ _ _ _ c.phase_in.ensures (c.statuses_of-statuses.ensures ∙ ap statuses_of c.class.ensures) c.stands.ensures c.if-phase_in-self.false c.if-not-stands.false in
    let code = code_of c.args.head.n c.args.ballots.now c.loop-i.i test.1 here c.place_in-place.ensures.place in
    goes_on c.args.head c.args.ballots.now (λ p q. p ≡ q) c.args.self _ _ _ _ c.loop-i.said _ c.with_said-then-is_refused.ensures
    c.loop-i.auto.i (omega (arith, c.loop-i-test.true, c.as_chunks.ensures.front_len)) c.loop-i.invariant.1 c.loop-i.invariant.2
    (λ b q. sym (c.is_refused.ensures ∙ refused_present c.args.head c.args.ballots.now c.loop-i.i c.loop-i.invariant.1 _ _ _ _ _ _ (c.sender_in-sender.ensures ∙ same_sender here) c.requires.fits test.1 test.0 code.0 (c.barred_from-barred.ensures _ code.1) c.loop-i.invariant.2.1 (c.loop-i.invariant.2.3 _ code.1)) ∙ c.if-is_refused.true)

pub alone-one-requires : goal.alone-one-requires
alone-one-requires c =
    let here = array_of c.loop-i.i c.as_chunks.ensures.front (omega (arith, c.loop-i-test.true, c.as_chunks.ensures.front_len)) in
    let test = test_passed c.args.head c.args.ballots.now c.loop-i.i here _ _ _ _ c.phase_in.ensures (c.statuses_of-statuses.ensures ∙ ap statuses_of c.class.ensures) c.stands.ensures c.if-phase_in-self.false c.if-not-stands.false in
    omega (arith, c.sender_in-sender.ensures, same_sender here, low_sender c.args.head.n c.args.ballots.now c.loop-i.i test.1, c.requires.fits.0)

pub loop-i-preserved : goal.loop-i-preserved
loop-i-preserved c =
    let here = array_of c.loop-i.i c.as_chunks.ensures.front (omega (arith, c.loop-i-test.true, c.as_chunks.ensures.front_len)) in
    let test = test_passed c.args.head c.args.ballots.now c.loop-i.i here _ _ _ _ c.phase_in.ensures (c.statuses_of-statuses.ensures ∙ ap statuses_of c.class.ensures) c.stands.ensures c.if-phase_in-self.false c.if-not-stands.false in
    let code = code_of c.args.head.n c.args.ballots.now c.loop-i.i test.1 here c.place_in-place.ensures.place in (
      length-set _ _ _ ∙ c.loop-i.invariant.0,
      none_more c.loop-i.invariant.1 (sym (c.is_refused.ensures ∙ refused_present c.args.head c.args.ballots.now c.loop-i.i c.loop-i.invariant.1 _ _ _ _ _ _ (c.sender_in-sender.ensures ∙ same_sender here) c.requires.fits test.1 test.0 code.0 (c.barred_from-barred.ensures _ code.1) c.loop-i.invariant.2.1 (c.loop-i.invariant.2.3 _ code.1)) ∙ c.if-is_refused.false),
      sees_present _ _ _ _ _ _ c.loop-i.said c.loop-i.invariant.2 _ _ c.loop-i.invariant.0 test.0 code.0 code.1 (c.alone-one.ensures ∙ ap alone (c.sender_in-sender.ensures ∙ same_sender here)),
    )

pub returns : goal.returns
returns c =
    let look = c.args.self in
    goes_on c.args.head c.args.ballots.now (λ p q. p ≡ q) look _ _ _ _ c.loop-i.said _
    (c.with_said-2.ensures ∙ ap (λ (k : ℕ). look_with k look.phase c.loop-i.listed look.elsewhere c.loop-i.said) (omega (arith, c.loop-i-test.false, c.loop-i.auto.i-end, c.requires.looks.0, c.as_chunks.ensures.front_len)))
    c.loop-i.auto.i (omega (arith, c.loop-i.auto.i-end, c.requires.looks.0, c.as_chunks.ensures.front_len)) c.loop-i.invariant.1 c.loop-i.invariant.2
    (λ b q. absurd (omega (arith, b, c.loop-i-test.false, c.as_chunks.ensures.front_len)))
