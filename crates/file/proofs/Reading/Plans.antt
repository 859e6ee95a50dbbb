-- What a plan says: either the file is refused, by a number from 12 to 16, and there are no heads and no rounds; or it
-- is accepted, and every byte of it has its place and keeps its rule. In both cases number and place are those of
-- specs/Refusal.
use Prim.Native.Nat.{ℕ, ◌+◌, ◌*◌, ◌≤◌, ◌<◌}
use mathlib.Core.Path.{◌≡◌, refl, sym, ap, ap₂, subst, ◌∙◌}
use mathlib.Core.List.{List, ◌∷◌, ◌++◌}
use mathlib.Core.Bool.{Bool, true, false, cond}
use mathlib.Core.Logic.{◌⊎◌, inl, inr, ◌↔◌}
use native.Mathlib.Omega.{arith}
use lib.ListN.{length, get_or}
use borrow.Author.Tests.{ltb-true, ltb-false}
use Rattle.rules.specs.Heard.{member}
use Rattle.rules.specs.Record.{four_bytes_at}
use Rattle.rules.specs.Given.{Heads, Row, ◌exactly_at◌, Given}
use Rattle.rules.proofs.Counting.Truth.{never}
use Rattle.file.specs.Section.{Section, Refused, count_at, section_at, proposals_of, needed_of, losses_of, coins_of}
use Rattle.file.specs.Plan.{Plan, refused_plan, taken, plan_of}
use Rattle.file.specs.Rules.{StandsIn, KeepsEveryRule}
use Rattle.file.specs.Refusal.{section_refusals, BitAt, Need, LossRow, file_refusals}
use Rattle.file.proofs.Reading.Sections.{Tells, tells_below, Meant, KeptSection, kept, tells_rule}
use Rattle.file.proofs.Reading.Sections.{tells_first}
use Rattle.file.proofs.Reading.Sections.{first_near, proposals_meant, needed_meant, losses_meant, coins_meant}

pub record RefusedFile (file : List ℕ) (plan : Plan) : Type 0 where
  pub number : ℕ
  pub place : ℕ
  pub low : 12 ≤ number
  pub high : number ≤ 16
  pub near : place ≤ length file
  pub is : plan ≡ refused_plan number place

-- what the lines of specs/Refusal come to in a file that keeps every rule, rule by rule
pub record RuleByRule (file : List ℕ) (room : ℕ) (plan : Plan) : Type 0 where
  -- "Count n (2 to 32), then n proposals (0 or 1)."
  pub heads_count : count_at file 0 ≡ plan.n
  pub heads : Heads plan.n
  pub proposal : (s : ℕ) → s < plan.n → get_or file (2 + s) 0 < 2
  -- "Count 1, then k, the heads needed: more than n/2, at most n."
  pub needed_count : count_at file (2 + plan.n) ≡ 1
  pub needed : get_or file (4 + plan.n) 0 ≡ plan.needed
  pub more_than_half : plan.n < plan.needed * 2
  pub at_most : plan.needed ≤ plan.n
  -- "Count of rounds, 0 to 256; per round n rows of 4 bytes .. Bits from n up are zero."
  pub rounds_count : count_at file (5 + plan.n) ≡ plan.rounds
  pub rounds : plan.rounds ≤ 256
  pub losses : plan.losses ≡ 7 + plan.n
  pub row : (i : ℕ) → i < plan.rounds * plan.n → LossRow plan.n file (plan.losses + i * 4)
  -- "Count n times rounds, then that many coins (0 or 1)"
  pub coins_count : count_at file (7 + plan.n + plan.rounds * plan.n * 4) ≡ plan.rounds * plan.n
  pub coins : plan.coins ≡ 9 + plan.n + plan.rounds * plan.n * 4
  pub coin : (i : ℕ) → i < plan.rounds * plan.n → get_or file (plan.coins + i) 0 < 2
  -- "15, the first extra byte": there is none, and none is missing
  pub whole : length file ≡ plan.coins + plan.rounds * plan.n
  -- "16 .. table shorter than n"
  pub enough : plan.n ≤ room
  -- "0 is accepted"
  pub number : plan.number ≡ 0
  pub place : plan.place ≡ 0

-- a rule kept at a place, the place written otherwise
carried : {a b : ℕ} (Keeps : ℕ → Type 0) → Keeps a → a ≡ b → Keeps b
carried Keeps x e = subst Keeps e x

-- a line has this number, one of 12 to 16
abbrev Numbered : ℕ → ℕ → Type 0
Numbered k number = (k ≡ number) × (12 ≤ k) × (k ≤ 16)

module _ (file : List ℕ) (room : ℕ) where
  -- a plan has the number and the place that the lines give, and keeps every rule or is refused
  record Answers (plan : Plan) (lines : List Row) : Type 0 where
    given : (number place : ℕ) → ((plan.number ≡ number) × (plan.place ≡ place)) ↔ Given number place lines
    either : RuleByRule file room plan ⊎ RefusedFile file plan

  -- one test and its line
  line : {number place k : ℕ} {Applies : ℕ → Type 0} {plan : Plan} {later : List Row} (t : Bool)
      → Numbered k number
      → Tells t place Applies
      → (t ≡ true → place ≤ length file)
      → (t ≡ false → Answers plan later)
      → Answers (cond t (refused_plan number place) plan) ((k exactly_at Applies) ∷ later)
  line {number} {place} {k} {Applies} {plan} {later} true numbered tells near next =
      record {
        given = λ m p. (
          λ e. inl (subst Applies e.1 (tells.0 refl), sym (numbered.0 ∙ e.0)),
          λ g. elim g [
            | inl x ↦ (sym (x.1 ∙ numbered.0), sym (tells.1 p x.0).1)
            | inr x ↦ absurd
                (x.0 place (tells.0 refl))
          ],
        );
        either =
            inr
            (record {
              number = number;
              place = place;
              low = omega (arith, numbered.0, numbered.1);
              high = omega (arith, numbered.0, numbered.2);
              near = near refl;
              is = refl;
            });
      }
  line {number} {place} {k} {Applies} {plan} {later} false numbered tells near next =
      record {
        given = λ m p. (
          λ e. inr (λ q x. never (tells.1 q x).0, ((next refl).given m p).0 e),
          λ g. elim g [ inl x ↦ never (tells.1 p x.0).0 | inr x ↦ ((next refl).given m p).1 x.1 ],
        );
        either = (next refl).either;
      }

  -- "Each section's answer is taken apart"
  section_line : {number place k : ℕ} {Applies : ℕ → Type 0} {later : List Row} (next : ℕ → ℕ → Plan) (s : Section)
      (t : Bool)
      → Numbered k number → Tells t place Applies → (t ≡ true → place ≤ length file)
      → (t ≡ false → Answers (taken s next) later)
      → Answers (taken (cond t (Refused number place) s) next) ((k exactly_at Applies) ∷ later)
  section_line next s true = line {plan = taken s next} true
  section_line next s false = line false

  -- a section and its four lines
  section : {count : ℕ} {breaks : Bool} {Rule : Type 0} {size pieces width : ℕ} {test : List ℕ → ℕ → Bool}
      {Keeps : ℕ → Type 0}
      → Meant file count breaks Rule size pieces width test Keeps → (next : ℕ → ℕ → Plan) (later : List Row)
      → (KeptSection file count Rule size pieces width Keeps (count + 2) size → Answers (next (count + 2) size) later)
      → Answers (taken (section_at file count breaks size width test) next)
      (section_refusals file count Rule pieces width Keeps ++ later)
  unfolding section_at
  section {count} {breaks} {Rule} {size} {pieces} {width} {test} {Keeps} meant next later then =
      section_line next _ _ (omega arith, omega arith, omega arith)
      (tells_below (length file) (count + 2) (λ l. omega (arith, l)) (λ l. omega (arith, l)) (omega arith))
      (λ e. omega arith) (λ a.
      section_line next _ _ (omega arith, omega arith, omega arith)
      (tells_rule meant (omega arith)) (λ e. omega (arith, ltb-false (length file) (count + 2) a)) (λ b.
      section_line next _ _ (omega arith, omega arith, omega arith)
      (tells_below (length file) (count + 2 + size) (λ l. omega (arith, l, meant.sized))
      (λ l. omega (arith, l, meant.sized)) (omega arith)) (λ e. omega arith) (λ c.
      section_line next _ _ (omega arith, omega arith, omega arith)
      (tells_first meant c) (first_near meant c) (λ d.
      then (kept meant (count + 2) size refl refl b c d)))))

  -- n, the rounds, and where the counts stand, as in specs/Refusal
  abbrev n : ℕ
  n = count_at file 0

  abbrev second : ℕ
  second = 2 + n

  abbrev third : ℕ
  third = second + 2 + 1

  abbrev rounds : ℕ
  rounds = count_at file third

  abbrev fourth : ℕ
  fourth = third + 2 + rounds * n * 4

  abbrev end : ℕ
  end = fourth + 2 + rounds * n

  -- the four sections, then 15 and 16
  answered : Answers (plan_of file room) (file_refusals file room)
  unfolding plan_of proposals_of needed_of losses_of coins_of
  answered =
      section (proposals_meant file) _ _ (λ P.
      section (needed_meant file second n) _ _ (λ N.
      section (losses_meant file third n) _ _ (λ L.
      section (coins_meant file fourth (rounds * n)) _ _ (λ C.
      line {number = 15} {place = end} _ (omega arith, omega arith, omega arith)
      (tells_below end (length file) (λ l. omega (arith, l)) (λ l. omega (arith, l)) (omega arith))
      (λ e. omega (arith, ltb-true end (length file) e)) (λ a.
      line {number = 16} {place = 0} {plan = made} _ (omega arith, omega arith, omega arith)
      (tells_below room n (λ l. omega (arith, l)) (λ l. omega (arith, l)) (omega arith)) (λ e. omega arith) (λ b.
      record {
        given = λ number place. (λ e. (sym e.0, sym e.1), λ e. (sym e.0, sym e.1));
        either =
            inl
            (record {
              heads_count = refl;
              heads = P.rule;
              proposal = λ i h. carried (BitAt file) (P.each i h) (omega arith);
              needed_count = N.rule;
              needed = ap (λ (p : ℕ). get_or file p 0) (omega arith);
              more_than_half = carried (λ p. n < get_or file p 0 * 2) (N.each 0 (omega arith)).0 (omega arith);
              at_most = carried (λ p. get_or file p 0 ≤ n) (N.each 0 (omega arith)).1 (omega arith);
              rounds_count = ap (count_at file) (omega arith);
              rounds = L.rule;
              losses = omega arith;
              row = L.each;
              coins_count = carried (λ p. count_at file p ≡ rounds * n) C.rule (omega arith);
              coins = omega arith;
              coin = λ i h. carried (BitAt file) (C.each i h) (omega arith);
              whole = omega (arith, ltb-false end (length file) a, C.inside);
              enough = ltb-false room n b;
              number = refl;
              place = refl;
            });
      }))))))
    where
      made : Plan
      made =
          record {
            number = 0;
            place = 0;
            n = n;
            needed = get_or file (second + 2) 0;
            rounds = rounds;
            losses = third + 2;
            coins = fourth + 2;
          }

  -- the number and the place are those of the first line that applies
  pub plan_given : (number place : ℕ)
      → (((plan_of file room).number ≡ number) × ((plan_of file room).place ≡ place))
      ↔ Given number place (file_refusals file room)
  plan_given = answered.given

  pub planned : RuleByRule file room (plan_of file room) ⊎ RefusedFile file (plan_of file room)
  planned = answered.either

  pub accepted_file : (plan_of file room).number ≡ 0 → RuleByRule file room (plan_of file room)
  accepted_file zero =
      elim planned [
        | inl accepted ↦ accepted
        | inr refused ↦ absurd (omega (arith, zero, ap (λ (p : Plan). p.number) refused.is, refused.low))
      ]

  pub refused_file : ((plan_of file room).number ≡ 0 → ⊥) → RefusedFile file (plan_of file room)
  refused_file number = elim planned [ inl accepted ↦ absurd (number accepted.number) | inr refused ↦ refused ]

  -- ---- acceptance names the plan

  -- two plans of one file are one
  one_plan : (plan : Plan) → RuleByRule file room (plan_of file room) → StandsIn file plan → plan_of file room ≡ plan
  one_plan plan keeps stands =
      λ i.
      record {
        number = (keeps.number ∙ sym stands.number) i;
        place = (keeps.place ∙ sym stands.place) i;
        n = n_same i;
        needed = needed_same i;
        rounds = rounds_same i;
        losses = losses_same i;
        coins = coins_same i;
      }
    where
      n_same : (plan_of file room).n ≡ plan.n
      n_same = sym keeps.heads_count ∙ stands.n

      needed_same : (plan_of file room).needed ≡ plan.needed
      needed_same = sym keeps.needed ∙ ap (λ (k : ℕ). get_or file (4 + k) 0) n_same ∙ stands.needed

      rounds_same : (plan_of file room).rounds ≡ plan.rounds
      rounds_same = sym keeps.rounds_count ∙ ap (λ (k : ℕ). count_at file (5 + k)) n_same ∙ stands.rounds

      losses_same : (plan_of file room).losses ≡ plan.losses
      losses_same = omega (arith, keeps.losses, stands.losses, n_same)

      coins_same : (plan_of file room).coins ≡ plan.coins
      coins_same =
          let rows : (plan_of file room).rounds * (plan_of file room).n ≡ plan.rounds * plan.n =
          ap₂ (λ (a b : ℕ). a * b) rounds_same n_same in
          omega (arith, keeps.coins, stands.coins, n_same, rows)

  pub accepted_exactly : (plan : Plan) → (((plan_of file room).number ≡ 0) × (plan_of file room ≡ plan))
      ↔ KeepsEveryRule file room plan
  accepted_exactly plan = (there, back)
    where
      there : ((plan_of file room).number ≡ 0) × (plan_of file room ≡ plan) → KeepsEveryRule file room plan
      there e =
          let keeps = accepted_file e.0 in
          subst (KeepsEveryRule file room) e.1 (
            (plan_given 0 0).0 (e.0, keeps.place),
            record {
              n = keeps.heads_count;
              needed = keeps.needed;
              rounds = keeps.rounds_count;
              losses = keeps.losses;
              coins = keeps.coins;
              number = keeps.number;
              place = keeps.place;
            },
          )

      back : KeepsEveryRule file room plan → ((plan_of file room).number ≡ 0) × (plan_of file room ≡ plan)
      back rules = let zero = ((plan_given 0 0).1 rules.0).0 in (zero, one_plan plan (accepted_file zero) rules.1)

  -- ---- rule by rule: then no line applies

  record NoneApplies (lines : List Row) : Type 0 where
    none : Given 0 0 lines

  -- no line of a section applies that is there and keeps its rules
  kept_section : (count : ℕ) (Rule : Type 0) (pieces width : ℕ) (Keeps : ℕ → Type 0) (later : List Row)
      → Rule → count + 2 + pieces * width ≤ length file → ((i : ℕ) → i < pieces → Keeps (count + 2 + i * width))
      → NoneApplies later → NoneApplies (section_refusals file count Rule pieces width Keeps ++ later)
  kept_section count Rule pieces width Keeps later rule inside each rest =
      let long : length file < count + 2 + pieces * width → ⊥ = λ l. omega arith in
      record {
        none = inr (
          λ p x. omega (arith, x.0, inside),
          inr (
            λ p x. x.0 rule,
            inr (
              λ p x. long x.0,
              inr (λ p x. x.3 (carried Keeps (each x.0 x.1) (sym x.2)), rest.none),
            ),
          ),
        );
      }

  keeps_given : (plan : Plan) → RuleByRule file room plan → NoneApplies (file_refusals file room)
  keeps_given plan keeps =
      kept_section 0 _ n 1 (BitAt file) _ (carried Heads keeps.heads (sym same)) (omega (arith, ends))
      (λ i h. carried (BitAt file) (keeps.proposal i (omega (arith, h, same))) (omega arith))
      (kept_section second _ 1 1 (Need n file) _
      (carried (λ p. count_at file p ≡ 1) keeps.needed_count (omega (arith, same))) (omega (arith, ends)) need
      (kept_section third (rounds ≤ 256) (rounds * n) 4 (LossRow n file) _ (omega (arith, keeps.rounds, rounds_same))
      (omega (arith, ends))
      (λ i h s m. let low = keeps.row i (omega (arith, h, rows)) s
      (carried (λ p. member s (four_bytes_at file p) ≡ true) m (omega (arith, same, keeps.losses))) in omega
      (arith, same, low))
      (kept_section fourth _ (rounds * n) 1 (BitAt file) _
      (carried (λ p. count_at file p ≡ plan.rounds * plan.n) keeps.coins_count (omega (arith, same, rows)) ∙ sym rows)
      (omega (arith, ends))
      (λ i h. carried (BitAt file) (keeps.coin i (omega (arith, h, rows))) (omega (arith, same, keeps.coins, rows)))
      (record {
        none = inr (
          λ p x. omega (arith, x.0, ends),
          inr (λ p x. omega (arith, x.0, keeps.enough, same), (refl, refl)),
        );
      }))))
    where
      same : n ≡ plan.n
      same = keeps.heads_count

      rounds_same : rounds ≡ plan.rounds
      rounds_same = carried (λ p. count_at file p ≡ plan.rounds) keeps.rounds_count (omega (arith, same))

      rows : rounds * n ≡ plan.rounds * plan.n
      rows = ap₂ (λ (a b : ℕ). a * b) rounds_same same

      ends : length file ≡ fourth + 2 + rounds * n
      ends = omega (arith, keeps.whole, keeps.coins, same, rows)

      need : (i : ℕ) → i < 1 → Need n file (second + 2 + i * 1)
      need i h =
          let k : get_or file (second + 2 + i * 1) 0 ≡ plan.needed =
          carried (λ p. get_or file p 0 ≡ plan.needed) keeps.needed (omega (arith, same, h)) in
          (omega (arith, k, keeps.more_than_half, same), omega (arith, k, keeps.at_most, same))

  pub no_line_applies : (plan : Plan) → RuleByRule file room plan → (plan_of file room).number ≡ 0
  no_line_applies plan keeps = ((plan_given 0 0).1 (keeps_given plan keeps).none).0
