use Prim.Native.Nat.{ℕ}
use mathlib.Core.Path.{◌≡◌, refl, sym}
use mathlib.Core.List.{List}
use native.Mathlib.Omega.{arith}
use borrow.Author.Tests.{ne_eqb, eq-eqb}
use Rattle.std.specs.Prelude.{Err}
use Rattle.rules.specs.declared.Refusal.{Refusal}
use Rattle.rules.specs.declared.Refusal.TheVariants.{NotHeads, Length, BreaksRule}
use Rattle.rules.specs.Refusal.{number_of, index_of}
use Rattle.rules.proofs.Meaning.OneAnswer.{refused_not_0}
use Rattle.rules.specs.Number.{first_that_applies}
use Rattle.rules.specs.Ballot.{read_number, read_index, read_ballot, number_read, index_read, ballot_read}
use Rattle.codes.proofs.Held.{ballot_there}
use Rattle.engine.proofs.ballot.read.Goals as goal

-- what is promised of a refusal follows from its number
refused_by : (n : ℕ) (bytes : List ℕ) (r : Refusal) → index_of r ≡ 0 → read_number n bytes ≡ number_of r
    → (number_read (Err r) ≡ read_number n bytes) × ((index_read (Err r) ≡ read_index n bytes) × (ballot_read (Err r) ≡ read_ballot n bytes))
unfolding read_ballot
refused_by n bytes r index e = (sym e, (index, sym (simp (e, ne_eqb (number_of r) 0 (refused_not_0 r)))))

pub returns-then-not_heads : goal.returns-then-not_heads
unfolding read_number first_that_applies
returns-then-not_heads c =
    let all = refused_by _ _ NotHeads refl (simp (← c.not_heads.ensures, c.if-not_heads.true)) in
    record { number = all.0; index = all.1.0; ballot = all.1.1 }

pub returns-in_default : goal.returns-in_default
unfolding read_number first_that_applies
returns-in_default c =
    let all = refused_by _ _ Length refl (simp (← c.not_heads.ensures, c.if-not_heads.false, ne_eqb _ _ c.in_default.ensures.cases)) in
    record { number = all.0; index = all.1.0; ballot = all.1.1 }

pub returns-then-breaks_rule : goal.returns-then-breaks_rule
unfolding read_number first_that_applies
returns-then-breaks_rule c =
    let whole = c.in-Some.ensures.cases in
    let all = refused_by _ _ (BreaksRule 0) refl (simp (← c.not_heads.ensures, c.if-not_heads.false, eq-eqb _ _ whole.long, ← whole.same, ← c.breaks_rule.ensures, c.if-breaks_rule.true)) in
    record { number = all.0; index = all.1.0; ballot = all.1.1 }

pub returns : goal.returns
unfolding read_number read_ballot first_that_applies
returns c =
    let whole = c.in-Some.ensures.cases in
    record {
      number = simp (← c.not_heads.ensures, c.if-not_heads.false, eq-eqb _ _ whole.long, ← whole.same, ← c.breaks_rule.ensures, c.if-breaks_rule.false);
      index = refl;
      ballot = simp (← c.not_heads.ensures, c.if-not_heads.false, eq-eqb _ _ whole.long, ← whole.same, ← c.breaks_rule.ensures, c.if-breaks_rule.false, ballot_there c.in-Some.five.now 0 c.ballot_at.ensures (omega (arith, whole.long, whole.same)));
    }
