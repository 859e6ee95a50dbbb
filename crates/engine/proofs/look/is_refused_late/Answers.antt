use Prim.Native.Nat.{ℕ}
use mathlib.Core.Path.{sym, ap, ap₂, ◌∙◌}
use mathlib.Core.Bool.{Bool, ◌&&◌, ◌||◌, not}
use native.Mathlib.Omega.{arith}
use Rattle.std.proofs.Common.{rules}
use lib.Dec.{eqb}
use Rattle.rules.specs.declared.Ballot.{Ballot}
use Rattle.rules.specs.Below.{first}
use Rattle.rules.specs.Heard.{member}
use Rattle.rules.specs.Tick.{own_otherwise, held_otherwise}
use Rattle.engine.specs.Look.{is_of}
use Rattle.engine.proofs.Fives.{array_of, same_ballot, same_sender, same_phase, same_value, same_status, same_rule}
use Rattle.engine.proofs.Refusing.{otherwise, low_sender, not_earlier, found_low, refused_breaks, refused_late, refused_parts}
use Rattle.engine.proofs.look.is_refused_late.Goals as goal

pub returns-then-breaks_rule : goal.returns-then-breaks_rule
returns-then-breaks_rule c =
    let here = array_of c.args.i c.as_chunks.ensures.front c.requires.i_bound in
    refused_breaks _ _ _ (sym (c.breaks_rule.ensures ∙ same_rule here c.args.head.n) ∙ c.if-breaks_rule.true)

pub has-requires : goal.has-requires
has-requires c =
    let here = array_of c.args.i c.as_chunks.ensures.front c.requires.i_bound in
    omega (arith, low_sender _ _ _ (sym (c.breaks_rule.ensures ∙ same_rule here c.args.head.n) ∙ c.if-breaks_rule.false), c.requires.fits.0, c.sender_in.ensures, same_sender here)

pub returns-then-not-has : goal.returns-then-not-has
returns-then-not-has c =
    let here = array_of c.args.i c.as_chunks.ensures.front c.requires.i_bound in
    let stands = sym (c.breaks_rule.ensures ∙ same_rule here c.args.head.n) ∙ c.if-breaks_rule.false in
    c.otherwise.ensures
    ∙ ap (λ (b : Ballot). own_otherwise c.args.head b || held_otherwise c.args.head b) (same_ballot here)
    ∙ sym (ap (λ (t : Bool). t || otherwise c.args.head c.args.ballots.now c.args.i) (not_earlier c.args.head _ _ _ c.requires.fits stands c.requires.known_in (ap (λ (s : ℕ). member s c.args.elsewhere) (sym (c.sender_in.ensures ∙ same_sender here)) ∙ sym c.has.ensures ∙ c.if-not-has.true)))
    ∙ refused_parts _ _ _ stands

pub offset_bounds-fives-earlier : goal.offset_bounds-fives-earlier
offset_bounds-fives-earlier c =
    let low = found_low _ _ _ _ c.first_of-earlier.ensures c.requires.i_bound in
    search (rules, arith)

pub bounds-fives-earlier : goal.bounds-fives-earlier
bounds-fives-earlier c = omega (arith, found_low _ _ _ _ c.first_of-earlier.ensures c.requires.i_bound, c.as_chunks.ensures.front_len)

pub returns-then-not-say_the_same : goal.returns-then-not-say_the_same
returns-then-not-say_the_same c =
    let h = c.args.head in
    let l = c.args.ballots.now in
    let i = c.args.i in
    let here = array_of i c.as_chunks.ensures.front c.requires.i_bound in
    let there = array_of c.first_of-earlier.result c.as_chunks.ensures.front (found_low _ _ _ _ c.first_of-earlier.ensures c.requires.i_bound) in
    ap not c.if-not-say_the_same.true
    ∙ sym (ap (λ (t : Bool). not t || otherwise h l i) c.if-not-say_the_same.true)
    ∙ refused_late _ _ _ c.requires.by_index (sym (c.breaks_rule.ensures ∙ same_rule here h.n) ∙ c.if-breaks_rule.false) _ _
    (c.first_of-earlier.ensures ∙ ap₂ (λ (p s : ℕ). first i (is_of l p s)) (c.phase_in.ensures ∙ same_phase here) (c.sender_in-2.ensures ∙ same_sender here))
    (c.say_the_same.ensures ∙ ap₂ (λ (a b : Bool). a && b) (ap₂ eqb (same_value there) (same_value here)) (ap₂ eqb (same_status there) (same_status here)))

pub returns-else-not-say_the_same : goal.returns-else-not-say_the_same
returns-else-not-say_the_same c =
    let h = c.args.head in
    let l = c.args.ballots.now in
    let i = c.args.i in
    let here = array_of i c.as_chunks.ensures.front c.requires.i_bound in
    let there = array_of c.first_of-earlier.result c.as_chunks.ensures.front (found_low _ _ _ _ c.first_of-earlier.ensures c.requires.i_bound) in
    c.otherwise-else-not-say_the_same.ensures
    ∙ ap (λ (b : Ballot). own_otherwise h b || held_otherwise h b) (same_ballot here)
    ∙ sym (ap (λ (t : Bool). not t || otherwise h l i) c.if-not-say_the_same.false)
    ∙ refused_late _ _ _ c.requires.by_index (sym (c.breaks_rule.ensures ∙ same_rule here h.n) ∙ c.if-breaks_rule.false) _ _
    (c.first_of-earlier.ensures ∙ ap₂ (λ (p s : ℕ). first i (is_of l p s)) (c.phase_in.ensures ∙ same_phase here) (c.sender_in-2.ensures ∙ same_sender here))
    (c.say_the_same.ensures ∙ ap₂ (λ (a b : Bool). a && b) (ap₂ eqb (same_value there) (same_value here)) (ap₂ eqb (same_status there) (same_status here)))
