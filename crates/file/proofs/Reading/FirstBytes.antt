-- The first 41,002 bytes of a file decide its report: the largest file has 41,001, so what follows is read by nobody.
use Prim.Native.Nat.{ℕ, ◌+◌, ◌*◌, ◌/◌, ◌≤◌, ◌<◌}
use mathlib.Core.Path.{◌≡◌, refl, sym, ap, ap₂, ◌∙◌}
use mathlib.Core.List.{List, ◌++◌}
use mathlib.Core.Bool.{Bool, true, false, cond, not}
use native.Mathlib.Decide.{dec_lt}
use native.Mathlib.Nat.{mul-le-mul}
use native.Mathlib.Omega.{arith}
use lib.ListN.{length, get_or, take, drop, length-take, length-drop}
use lib.Dec.{ltb, eqb}
use lib.Seq.{take_all, get_or-take, get_or-drop, ext_get_or}
use borrow.Author.Tests.{lt-ltb, le-ltb, ltb-false}
use Rattle.rules.specs.declared.Head.{Head}
use Rattle.rules.specs.Below.{first, count}
use Rattle.rules.specs.Ballot.{not_heads}
use Rattle.rules.proofs.Meaning.Meanings.{heads}
use Rattle.file.specs.Section.{Section, Body, Refused}
use Rattle.file.specs.Plan.{Plan, refused_plan, taken, plan_of}
use Rattle.file.specs.Section.{count_at, body_of, section_at, not_bit, not_need, not_row, proposals_of, needed_of}
use Rattle.file.specs.Section.{losses_of, coins_of}
use Rattle.file.specs.Table.{table_after}
use Rattle.file.specs.Figures.{Outcome, bound_of, refused_outcome, outcome_of}
use Rattle.file.specs.Benched.{empty_table}
use Rattle.file.specs.Report.{first_line, head_lines, last_line, refusal_line, report_of}
use Rattle.file.proofs.Reading.Sections.{ordered, proposals_body, needed_body, losses_body, coins_body}
use Rattle.file.proofs.Reading.Plans.{accepted_file, refused_file}
use Rattle.file.proofs.Running.Placing.{after_nothing}

-- ---- a refused file's outcome is its number and place

pub outcome_refused : (file : List ℕ) (table : List Head) (number place : ℕ)
    → plan_of file (length table) ≡ refused_plan number place → outcome_of file table ≡ refused_outcome number place
unfolding outcome_of count bound_of
outcome_refused file table number place e = rw e refl

pub refused_table : (file : List ℕ) (table : List Head) (number place : ℕ)
    → plan_of file (length table) ≡ refused_plan number place → table_after file table ≡ table
refused_table file table number place e =
    after_nothing file table (ap (λ (p : Plan). p.n) e) (ap (λ (p : Plan). p.rounds) e)

-- ---- two files with the same first bytes

module _ (file : List ℕ) (m : ℕ) (enough : 41002 ≤ m) (longer : m < length file) where
  abbrev front : List ℕ
  front = take m file

  front_length : length front ≡ m
  front_length = omega (arith, length-take m file, longer)

  byte_same : (i : ℕ) → i < m → get_or front i 0 ≡ get_or file i 0
  byte_same i h = get_or-take m file i 0 h

  count_same : (at : ℕ) → at + 2 ≤ m → count_at front at ≡ count_at file at
  count_same at h = ap₂ (λ (a b : ℕ). a * 256 + b) (byte_same at (omega arith)) (byte_same (at + 1) (omega arith))

  body_same : (start size : ℕ) → start + size ≤ m → body_of front (Body start size) ≡ body_of file (Body start size)
  body_same start size inside = ext_get_or 0 (take size (drop start front)) (take size (drop start file)) long each
    where
      long : length (take size (drop start front)) ≡ length (take size (drop start file))
      long =
          omega (
            arith,
            inside,
            longer,
            front_length,
            length-take size (drop start front),
            length-take size (drop start file),
            length-drop start front,
            length-drop start file,
          )

      each : (i : ℕ) → i < length (take size (drop start front))
          → get_or (take size (drop start front)) i 0 ≡ get_or (take size (drop start file)) i 0
      each i h =
          let low : i < size = omega (arith, h, length-take size (drop start front)) in
          get_or-take size (drop start front) i 0 low ∙ get_or-drop start front i 0
          ∙ byte_same (start + i) (omega (arith, low, inside)) ∙ sym (get_or-drop start file i 0)
          ∙ sym (get_or-take size (drop start file) i 0 low)

  -- a section that ends in the first bytes is read alike
  section_same : (at : ℕ) (breaks : Bool) (size width : ℕ) (test : List ℕ → ℕ → Bool) → at + 2 ≤ m
      → (breaks ≡ false → at + 2 + size ≤ m)
      → section_at front at breaks size width test ≡ section_at file at breaks size width test
  unfolding section_at
  section_same at breaks size width test h f =
      rw (le-ltb (length front) (at + 2) (omega (arith, front_length)), le-ltb (length file) (at + 2) (omega arith))
      (go breaks f)
    where
      looked : List ℕ → Section
      looked body =
          let broken = first (length body / width) (λ i. test body (i * width)) in
          cond (ltb broken (length body / width)) (Refused 14 (at + 2 + broken * width)) (Body (at + 2) size)

      go : (b : Bool) → (b ≡ false → at + 2 + size ≤ m)
          → ordered front at false b (ltb (length front) (at + 2 + size)) (looked (body_of front (Body (at + 2) size)))
          ≡ ordered file at false b (ltb (length file) (at + 2 + size)) (looked (body_of file (Body (at + 2) size)))
      go true f = refl
      go false f =
          let e = f refl in
          rw (
            le-ltb (length front) (at + 2 + size) (omega (arith, front_length)),
            le-ltb (length file) (at + 2 + size) (omega arith),
          ) (ap looked (body_same (at + 2) size e))

  -- sections that are read alike lead to one plan, where what comes next does
  taken_same : (section other : Section) (f g : ℕ → ℕ → Plan) → section ≡ other
      → ((start size : ℕ) → other ≡ Body start size → f start size ≡ g start size) → taken section f ≡ taken other g
  taken_same section other f g e same = ap (λ (s : Section). taken s f) e ∙ go other same
    where
      go : (s : Section) → ((start size : ℕ) → s ≡ Body start size → f start size ≡ g start size)
          → taken s f ≡ taken s g
      go (Refused number place) same = refl
      go (Body start size) same = same start size refl

  -- ---- the sections

  proposals_same : proposals_of front ≡ proposals_of file
  unfolding proposals_of
  proposals_same =
      ap (λ (c : ℕ). section_at front 0 (not_heads c) c 1 not_bit) (count_same 0 (omega (arith, enough)))
      ∙ section_same 0 (not_heads (count_at file 0)) (count_at file 0) 1 not_bit (omega (arith, enough))
      (λ e. let few = heads (count_at file 0) e in omega (arith, enough, few))

  needed_same : (at n : ℕ) → at ≤ 34 → needed_of front at n ≡ needed_of file at n
  unfolding needed_of
  needed_same at n low =
      ap (λ (c : ℕ). section_at front at (not (eqb c 1)) 1 1 (not_need n))
      (count_same at (omega (arith, enough, low)))
      ∙ section_same at (not (eqb (count_at file at) 1)) 1 1 (not_need n) (omega (arith, enough, low))
      (λ e. omega (arith, enough, low))

  losses_same : (at n : ℕ) → at ≤ 37 → n ≤ 32 → losses_of front at n ≡ losses_of file at n
  unfolding losses_of
  losses_same at n low few =
      ap (λ (c : ℕ). section_at front at (ltb 256 c) (c * n * 4) 4 (not_row n))
      (count_same at (omega (arith, enough, low)))
      ∙ section_same at (ltb 256 (count_at file at)) (count_at file at * n * 4) 4 (not_row n)
      (omega (arith, enough, low))
      (λ e. let products = mul-le-mul (ltb-false 256 (count_at file at) e) few in omega
      (arith, enough, low, products))

  coins_same : (at count : ℕ) → at ≤ 32807 → count ≤ 8192 → coins_of front at count ≡ coins_of file at count
  unfolding coins_of
  coins_same at count low few =
      ap (λ (c : ℕ). section_at front at (not (eqb c count)) count 1 not_bit)
      (count_same at (omega (arith, enough, low)))
      ∙ section_same at (not (eqb (count_at file at) count)) count 1 not_bit (omega (arith, enough, low))
      (λ e. omega (arith, enough, low, few))

  -- both files go on after a last section that ends this early
  ends_same : (end : ℕ) (p q : Plan) → end ≤ 41001
      → cond (ltb end (length front)) (refused_plan 15 end) p ≡ cond (ltb end (length file)) (refused_plan 15 end) q
  ends_same end p q low =
      rw (
        lt-ltb end (length front) (omega (arith, low, enough, front_length)),
        lt-ltb end (length file) (omega (arith, low, enough, longer)),
      ) refl

  pub plan_same : (room : ℕ) → plan_of front room ≡ plan_of file room
  unfolding plan_of
  plan_same room =
      taken_same _ (proposals_of file) _ _ proposals_same (λ proposals n p.
      let P = proposals_body file proposals n p in
      let few : n ≤ 32 = omega (arith, P.heads) in
      let second : proposals + n ≤ 34 = omega (arith, P.starts, few) in
      taken_same _ (needed_of file (proposals + n) n) _ _ (needed_same (proposals + n) n second) (λ k one q.
      let N = needed_body file (proposals + n) n k one q in
      let third : k + one ≤ 37 = omega (arith, N.starts, N.single, second) in
      taken_same _ (losses_of file (k + one) n) _ _ (losses_same (k + one) n third few) (λ losses size r.
      let L = losses_body file (k + one) n losses size r in
      let rows = mul-le-mul L.rounds few in
      let fourth : losses + size ≤ 32807 = omega (arith, L.starts, L.sized, third, rows) in
      let rounds = count_same (k + one) (omega (arith, enough, third)) in
      taken_same _ (coins_of file (losses + size) (count_at file (k + one) * n)) _ _
      (ap (λ (c : ℕ). coins_of front (losses + size) (c * n)) rounds ∙ coins_same (losses + size) _ fourth rows)
      (λ coins count c.
      let C = coins_body file (losses + size) (count_at file (k + one) * n) coins count c in
      ends_same (coins + count) _ _ (omega (arith, C.starts, C.sized, fourth, rows))))))

  -- a file that goes on is refused, and so is its front, by the same number at the same place
  goes_on : (plan_of file 32).number ≡ 0 → ⊥
  goes_on zero =
      let A = accepted_file file 32 zero in
      let least : (plan_of file 32).n ≤ 32 = omega (arith, A.heads) in
      omega (arith, enough, longer, A.whole, A.coins, mul-le-mul A.rounds least)

  front_decides : report_of front ≡ report_of file
  unfolding report_of
  front_decides =
      let R = refused_file file 32 goes_on in
      let e = outcome_refused file empty_table R.number R.place R.is in
      let f = outcome_refused front empty_table R.number R.place (plan_same 32 ∙ R.is) in
      let x = refused_table file empty_table R.number R.place R.is in
      let y = refused_table front empty_table R.number R.place (plan_same 32 ∙ R.is) in
      ap₂ (λ (o : Outcome) (t : List Head). cond (eqb o.number 0)
      (first_line o ++ head_lines o.n t ++ last_line o) (refusal_line o)) (f ∙ sym e) (y ∙ sym x)

-- 41,002 bytes decide
pub the_first_bytes_decide : (file : List ℕ) (m : ℕ) → 41002 ≤ m → report_of (take m file) ≡ report_of file
the_first_bytes_decide file m enough = go (dec_lt m (length file))
  where
    go : Dec (m < length file) → report_of (take m file) ≡ report_of file
    go (yes longer) = front_decides file m enough longer
    go (no short) = ap report_of (take_all m file (omega arith))
