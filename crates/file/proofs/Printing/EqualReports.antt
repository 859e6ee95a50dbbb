-- Equal reports come from equal figures and heads: every number that is printed has at most twenty digits, and the
-- lines tell what they print.
use Prim.Native.Nat.{ℕ, ◌+◌, ◌-◌, ◌/◌, ◌≤◌, ◌<◌, ◌^◌}
use mathlib.Core.Path.{◌≡◌, refl, sym, ap, ap₂, subst, ◌∙◌}
use mathlib.Core.List.{List, ◌++◌, append_assoc}
use native.Mathlib.Decide.{ℕ_discrete}
use native.Mathlib.Nat.{mul-le-mul}
use native.Mathlib.Omega.{arith}
use lib.ListN.{length, get_or}
use lib.Dec.{leb}
use borrow.Author.Tests.{eq-eqb, ne_eqb}
use Rattle.rules.specs.declared.Head.{Head}
use Rattle.rules.specs.Head.{ballot_of}
use Rattle.rules.specs.Run.{head_in}
use Rattle.rules.proofs.Counting.Below.{count_le}
use Rattle.rules.proofs.Rounds.Rounds.{sent_now}
use Rattle.rules.proofs.Undivided.Phases.{phases_low}
use Rattle.file.specs.Plan.{Plan, plan_of}
use Rattle.file.specs.Table.{head_of, rows_in, table_after}
use Rattle.file.specs.Figures.{Outcome, lost_in, bound_of, good_in, decided_in, refused_outcome, outcome_of}
use Rattle.file.specs.Vote.{vote_for, events_for}
use Rattle.file.specs.Benched.{empty_table, benched_of}
use Rattle.file.specs.Report.{first_line, head_lines, last_line, refusal_line, report_of, SameState}
use Rattle.file.proofs.Reading.Plans.{RuleByRule, RefusedFile, accepted_file, refused_file}
use Rattle.file.proofs.Running.BenchIsRun.{heads_are, rounds_are_run, events_length}
use Rattle.file.proofs.Reading.FirstBytes.{outcome_refused}
use Rattle.file.proofs.Printing.LinesApart.{Printable, PrintableOutcome, refusal_apart, first_apart, lines_apart}
use Rattle.file.proofs.Printing.LinesApart.{last_apart}

abbrev Same : List ℕ → List ℕ → Type 0
Same file other =
    ((benched_of file).outcome ≡ (benched_of other).outcome)
    × ((s : ℕ) → s < (benched_of file).outcome.n
    → SameState (head_of (benched_of file).heads s) (head_of (benched_of other).heads s))

-- ---- how large the figures are

module _ (file : List ℕ) (short : length file < 2 ^ 64) where
  abbrev plan : Plan
  plan = plan_of file 32

  abbrev outcome : Outcome
  outcome = (benched_of file).outcome

  refused_small : RefusedFile file plan → PrintableOutcome outcome
  refused_small R =
      subst PrintableOutcome (sym (outcome_refused file empty_table R.number R.place R.is))
      (record {
        number = omega (arith, R.high);
        place = omega (arith, R.near, short);
        n = omega arith;
        needed = omega arith;
        bound = unfold bound_of in omega arith;
        rounds = omega arith;
        good = omega arith;
        decided = omega arith;
      })

  module _ (keeps : RuleByRule file 32 plan) where
    heads_few : plan.n ≤ 32
    heads_few = keeps.heads.1

    bound_small : bound_of plan.n plan.needed ≤ 1100
    unfolding bound_of
    bound_small =
        let half : (plan.n + 1) / 2 ≤ 32 = omega (arith, heads_few) in
        let rest : plan.n - plan.needed ≤ 32 = omega (arith, heads_few) in
        omega (arith, mul-le-mul half rest, heads_few, keeps.at_most)

    good_small : good_in file plan plan.rounds ≤ plan.rounds
    good_small =
        count_le plan.rounds (λ r. leb (lost_in (rows_in file plan r) plan.n) (bound_of plan.n plan.needed))

    decided_small : decided_in (table_after file empty_table) plan.n ≤ plan.n
    decided_small = count_le plan.n _

    accepted_small : PrintableOutcome outcome
    unfolding outcome_of
    accepted_small =
        record {
          number = omega (arith, keeps.number);
          place = omega (arith, keeps.place);
          n = omega (arith, heads_few);
          needed = omega (arith, heads_few, keeps.at_most);
          bound = omega (arith, bound_small);
          rounds = omega (arith, keeps.rounds);
          good = omega (arith, good_small, keeps.rounds);
          decided = omega (arith, decided_small, heads_few);
        }

    -- each tick raises the highest phase by one at most, and there are at most 256 × 32
    phase_small : (s : ℕ) → s < plan.n → Printable (head_of (table_after file empty_table) s).phase
    unfolding table_after
    phase_small s h =
        let vote = vote_for file empty_table in
        let events = events_for file empty_table in
        let run = rounds_are_run file plan empty_table keeps plan.rounds (omega arith) in
        let low = phases_low vote events run (ballot_of (head_in vote events s)) (sent_now vote events s h) in
        let at = ap (λ (k : Head). k.phase) (heads_are file plan empty_table keeps plan.rounds s h) in
        omega (
          arith,
          low,
          at,
          events_length file plan empty_table keeps plan.rounds,
          mul-le-mul keeps.rounds heads_few,
        )

  small : PrintableOutcome outcome
  small = go (ℕ_discrete plan.number 0)
    where
      go : Dec (plan.number ≡ 0) → PrintableOutcome outcome
      go (yes zero) = accepted_small (accepted_file file 32 zero)
      go (no some) = refused_small (refused_file file 32 some)

  number_is : outcome.number ≡ plan.number
  unfolding outcome_of
  number_is = refl

  place_is : outcome.place ≡ plan.place
  unfolding outcome_of
  place_is = refl

  phases_small : outcome.number ≡ 0 → (s : ℕ) → s < outcome.n → Printable (head_of (benched_of file).heads s).phase
  unfolding outcome_of
  phases_small zero = phase_small (accepted_file file 32 zero)

-- ---- which lines are printed

accepted_lines : (file : List ℕ) → (benched_of file).outcome.number ≡ 0
    → report_of file ≡ first_line (benched_of file).outcome
    ++ (head_lines (benched_of file).outcome.n (benched_of file).heads ++ last_line (benched_of file).outcome)
unfolding report_of
accepted_lines file zero =
    rw (eq-eqb (benched_of file).outcome.number 0 zero) (append_assoc (first_line (benched_of file).outcome) _ _)

refused_lines : (file : List ℕ) → ((benched_of file).outcome.number ≡ 0 → ⊥)
    → report_of file ≡ refusal_line (benched_of file).outcome
unfolding report_of
refused_lines file some = rw (ne_eqb (benched_of file).outcome.number 0 some) refl

-- "heads" and "refused" have different first letters
letters_differ : (o p : Outcome) (more : List ℕ) → first_line o ++ more ≡ refusal_line p → ⊥
unfolding first_line refusal_line
letters_differ o p more e = let z : ◌≡◌ {A = ℕ} 104 114 = ap (λ (l : List ℕ). get_or l 0 0) e in omega (arith, z)

-- ---- two files

module _ (file other : List ℕ) (short : length file < 2 ^ 64) (brief : length other < 2 ^ 64) where
  abbrev o : Outcome
  o = (benched_of file).outcome

  abbrev p : Outcome
  p = (benched_of other).outcome

  both_accepted : o.number ≡ 0 → p.number ≡ 0 → report_of file ≡ report_of other → Same file other
  both_accepted a b e = (
    λ i.
        record {
          number = (a ∙ sym b) i;
          place = (place file short a ∙ sym (place other brief b)) i;
          n = x.0 i;
          needed = x.1 i;
          bound = x.2 i;
          rounds = z.0 i;
          good = z.1 i;
          decided = z.2 i;
        },
    y.0,
  )
    where
      place : (f : List ℕ) → length f < 2 ^ 64 → (benched_of f).outcome.number ≡ 0 → (benched_of f).outcome.place ≡ 0
      place f s zero = place_is f s ∙ (accepted_file f 32 (sym (number_is f s) ∙ zero)).place

      lines : first_line o ++ (head_lines o.n (benched_of file).heads ++ last_line o)
          ≡ first_line p ++ (head_lines p.n (benched_of other).heads ++ last_line p)
      lines = sym (accepted_lines file a) ∙ e ∙ accepted_lines other b

      x : (o.n ≡ p.n) × (o.needed ≡ p.needed) × (o.bound ≡ p.bound)
          × (head_lines o.n (benched_of file).heads ++ last_line o
          ≡ head_lines p.n (benched_of other).heads ++ last_line p)
      x =
          first_apart o p (head_lines o.n (benched_of file).heads ++ last_line o)
          (head_lines p.n (benched_of other).heads ++ last_line p) (small file short) (small other brief) lines

      y : ((s : ℕ) → s < o.n → SameState (head_of (benched_of file).heads s) (head_of (benched_of other).heads s))
          × (last_line o ≡ last_line p)
      y =
          lines_apart (benched_of file).heads (benched_of other).heads o.n (last_line o) (last_line p)
          (small file short).n
          (phases_small file short a) (λ s h. phases_small other brief b s (omega (arith, h, x.0)))
          (x.3 ∙ ap (λ (n : ℕ). head_lines n (benched_of other).heads ++ last_line p) (sym x.0))

      z : (o.rounds ≡ p.rounds) × (o.good ≡ p.good) × (o.decided ≡ p.decided)
      z = last_apart o p (small file short) (small other brief) y.1

  both_refused : (o.number ≡ 0 → ⊥) → (p.number ≡ 0 → ⊥) → report_of file ≡ report_of other → Same file other
  both_refused a b e = (is, λ s h. absurd (omega (arith, h, ap (λ (q : Outcome). q.n) first)))
    where
      R : RefusedFile file (plan_of file 32)
      R = refused_file file 32 (λ zero. a (number_is file short ∙ zero))

      S : RefusedFile other (plan_of other 32)
      S = refused_file other 32 (λ zero. b (number_is other brief ∙ zero))

      first : o ≡ refused_outcome R.number R.place
      first = outcome_refused file empty_table R.number R.place R.is

      second : p ≡ refused_outcome S.number S.place
      second = outcome_refused other empty_table S.number S.place S.is

      same : (o.number ≡ p.number) × (o.place ≡ p.place)
      same =
          refusal_apart o p (small file short) (small other brief)
          (sym (refused_lines file a) ∙ e ∙ refused_lines other b)

      is : o ≡ p
      is =
          first
          ∙ ap₂ (λ (number place : ℕ). refused_outcome number place)
          (sym (ap (λ (q : Outcome). q.number) first) ∙ same.0 ∙ ap (λ (q : Outcome). q.number) second)
          (sym (ap (λ (q : Outcome). q.place) first) ∙ same.1 ∙ ap (λ (q : Outcome). q.place) second)
          ∙ sym second

  pub equal_reports : report_of file ≡ report_of other → Same file other
  equal_reports e = go (ℕ_discrete o.number 0) (ℕ_discrete p.number 0)
    where
      go : Dec (o.number ≡ 0) → Dec (p.number ≡ 0) → Same file other
      go (yes a) (yes b) = both_accepted a b e
      go (no a) (no b) = both_refused a b e
      go (yes a) (no b) =
          absurd
          (letters_differ o p _
          (sym (accepted_lines file a) ∙ e ∙ refused_lines other b))
      go (no a) (yes b) =
          absurd
          (letters_differ p o _
          (sym (accepted_lines other b) ∙ sym e ∙ refused_lines file a))
