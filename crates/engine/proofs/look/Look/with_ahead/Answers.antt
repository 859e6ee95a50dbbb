use Prim.Native.Nat.{ℕ, ◌+◌, ◌<◌}
use mathlib.Core.Path.{◌≡◌, sym, ap, ap₂, subst, ◌∙◌}
use mathlib.Core.List.{List, []}
use native.Mathlib.Omega.{arith}
use lib.ListN.{set}
use lib.Bits.{bit_or}
use Rattle.rules.specs.Ballot.{ballot_at}
use Rattle.rules.proofs.Counting.Below.{none_more}
use Rattle.engine.specs.declared.look.Look.{Look}
use Rattle.engine.specs.Look.{alone, highest, nobody_said}
use Rattle.engine.proofs.Fives.{StandsAt, array_of, same_phase, same_sender, same_value, same_status}
use Rattle.engine.proofs.Refusing.{stands_clean, clean_low, low_code, code_of, refused_ahead}
use Rattle.engine.proofs.Looking.{said_of, look_with, sees, sees_ahead, goes_on}
use Rattle.engine.proofs.look.Look.with_ahead.Goals as goal

pub returns-then-phase_in-self : goal.returns-then-phase_in-self
returns-then-phase_in-self c =
    let here : StandsAt c.in-Some.five.now c.args.ballots.now c.args.self.next = subst (λ (f : List ℕ). StandsAt f c.args.ballots.now c.args.self.next) (sym (c.in-Some.ensures.lookup.3.1 [])) (array_of c.args.self.next c.as_chunks.ensures.front (omega (arith, c.in-Some.ensures.lookup.3.0, c.as_chunks.ensures.front_len))) in
    (c.requires.looks, omega arith, λ b q. absurd (omega (arith, q.1, c.if-phase_in-self.true, c.phase_in.ensures, same_phase here)))

pub returns-then-is_refused_ahead : goal.returns-then-is_refused_ahead
returns-then-is_refused_ahead c =
    let here : StandsAt c.in-Some.five.now c.args.ballots.now c.args.self.next = subst (λ (f : List ℕ). StandsAt f c.args.ballots.now c.args.self.next) (sym (c.in-Some.ensures.lookup.3.1 [])) (array_of c.args.self.next c.as_chunks.ensures.front (omega (arith, c.in-Some.ensures.lookup.3.0, c.as_chunks.ensures.front_len))) in
    let above : highest c.args.head c.args.ballots.now c.args.self.next < (ballot_at c.args.ballots.now c.args.self.next).phase = omega (arith, (sees _ _ _ _ c.requires.looks.2).0, c.if-phase_in-self.false, c.phase_in.ensures, same_phase here) in
    (c.requires.looks, omega arith, λ b q. sym (c.is_refused_ahead.ensures ∙ refused_ahead c.args.head _ _ here above) ∙ c.if-is_refused_ahead.true)

pub alone-sender-requires : goal.alone-sender-requires
alone-sender-requires c =
    let here : StandsAt c.in-Some.five.now c.args.ballots.now c.args.self.next = subst (λ (f : List ℕ). StandsAt f c.args.ballots.now c.args.self.next) (sym (c.in-Some.ensures.lookup.3.1 [])) (array_of c.args.self.next c.as_chunks.ensures.front (omega (arith, c.in-Some.ensures.lookup.3.0, c.as_chunks.ensures.front_len))) in
    let above : highest c.args.head c.args.ballots.now c.args.self.next < (ballot_at c.args.ballots.now c.args.self.next).phase = omega (arith, (sees _ _ _ _ c.requires.looks.2).0, c.if-phase_in-self.false, c.phase_in.ensures, same_phase here) in
    omega (arith, c.sender_in.ensures, same_sender here, clean_low _ _ _ c.requires.fits (sym (c.is_refused_ahead.ensures ∙ refused_ahead c.args.head _ _ here above) ∙ c.if-is_refused_ahead.false))

pub place_in-requires : goal.place_in-requires
place_in-requires c =
    let here : StandsAt c.in-Some.five.now c.args.ballots.now c.args.self.next = subst (λ (f : List ℕ). StandsAt f c.args.ballots.now c.args.self.next) (sym (c.in-Some.ensures.lookup.3.1 [])) (array_of c.args.self.next c.as_chunks.ensures.front (omega (arith, c.in-Some.ensures.lookup.3.0, c.as_chunks.ensures.front_len))) in
    let above : highest c.args.head c.args.ballots.now c.args.self.next < (ballot_at c.args.ballots.now c.args.self.next).phase = omega (arith, (sees _ _ _ _ c.requires.looks.2).0, c.if-phase_in-self.false, c.phase_in.ensures, same_phase here) in
    let stands = stands_clean c.args.head _ _ (sym (c.is_refused_ahead.ensures ∙ refused_ahead c.args.head _ _ here above) ∙ c.if-is_refused_ahead.false) in
    omega (arith, same_value here, same_status here, low_code _ _ _ stands)

pub returns : goal.returns
returns c =
    let here : StandsAt c.in-Some.five.now c.args.ballots.now c.args.self.next = subst (λ (f : List ℕ). StandsAt f c.args.ballots.now c.args.self.next) (sym (c.in-Some.ensures.lookup.3.1 [])) (array_of c.args.self.next c.as_chunks.ensures.front (omega (arith, c.in-Some.ensures.lookup.3.0, c.as_chunks.ensures.front_len))) in
    let above : highest c.args.head c.args.ballots.now c.args.self.next < (ballot_at c.args.ballots.now c.args.self.next).phase = omega (arith, (sees _ _ _ _ c.requires.looks.2).0, c.if-phase_in-self.false, c.phase_in.ensures, same_phase here) in
    let clean = sym (c.is_refused_ahead.ensures ∙ refused_ahead c.args.head _ _ here above) ∙ c.if-is_refused_ahead.false in
    let stands = stands_clean c.args.head _ _ clean in
    let look = c.args.self in
    let a = c.alone-sender.result in
    let place = c.place_in.result in
    let code = code_of _ _ _ stands here c.place_in.ensures.place in
    let said = set nobody_said place a in
    goes_on c.args.head c.args.ballots.now (λ p q. (c.with_said.result.next ≡ look.next) × (q < p)) look _ _ _ _ said _
    (c.with_said.ensures
    ∙ ap₂ (λ (q : ℕ) (l : List ℕ). look_with (look.next + 1) q a (bit_or look.elsewhere look.listed) l) (c.phase_in-2.ensures ∙ same_phase here) c.said_alone-said.ensures)
    (omega arith) (omega (arith, c.in-Some.ensures.lookup.3.0, c.as_chunks.ensures.front_len)) (none_more c.requires.looks.1 clean)
    (sees_ahead _ _ _ _ _ _ (said_of look) (sees _ _ _ _ c.requires.looks.2) place a (omega (arith, c.if-phase_in-self.false, c.phase_in.ensures, same_phase here)) code.0 code.1 (c.alone-sender.ensures ∙ ap alone (c.sender_in.ensures ∙ same_sender here)))
    (λ b q. absurd (omega (arith, q.0, ap (λ (x : Look). x.next) c.with_said.ensures)))
