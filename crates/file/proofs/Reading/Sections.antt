-- What a section reader answers: its tests in the order of the lines of specs/Refusal, what each of them means there,
-- and what an accepted section says of its body.
use Prim.Native.Nat.{ℕ, ◌+◌, ◌*◌, ◌/◌, ◌≤◌, ◌<◌}
use mathlib.Core.Path.{◌≡◌, refl, sym, ap, subst, ◌∙◌}
use mathlib.Core.List.{List}
use mathlib.Core.Bool.{Bool, true, false, cond, ◌&&◌, not}
use native.Mathlib.Nat.{mul-le-mul_right}
use native.Mathlib.Omega.{arith}
use lib.ListN.{length, get_or, drop, length-take, length-drop}
use lib.Dec.{ltb, leb, eqb}
use lib.Seq.{get_or-take, get_or-drop}
use borrow.Author.Tests.{ltb-true, ltb-false, lt-ltb}
use Rattle.rules.specs.Below.{first}
use Rattle.rules.specs.Ballot.{not_heads}
use Rattle.rules.specs.Heard.{within}
use Rattle.rules.specs.Record.{four_bytes_at}
use Rattle.rules.specs.Given.{Heads, At}
use Rattle.rules.proofs.Counting.Truth.{Means, never, not_false, means_as, means_and, means_not, means_twice, means_lt, means_le}
use Rattle.rules.proofs.Counting.Truth.{means_eq}
use Rattle.rules.proofs.Counting.Below.{not_some, first_holds, first_before, first_at}
use Rattle.rules.proofs.Counting.Sets.{means_within}
use Rattle.file.specs.Section.{Section, Body, Refused, count_at, body_of, section_at, not_bit, not_need}
use Rattle.file.specs.Section.{not_row, proposals_of, needed_of, losses_of, coins_of}
use Rattle.file.specs.Refusal.{FirstThatBreaks, BitAt, Need, LossRow}

-- where a body starts, and how long it is; a refusal is told apart
abbrev start_or : ℕ → Section → ℕ
start_or other (Body start size) = start
start_or other (Refused number place) = other

abbrev size_or : ℕ → Section → ℕ
size_or other (Body start size) = size
size_or other (Refused number place) = other

abbrev is_body : Section → ℕ
is_body (Body start size) = 1
is_body (Refused number place) = 0

never_body : {A : Type 0} {number place start size : ℕ} → Refused number place ≡ Body start size → A
never_body e = let z : ◌≡◌ {A = ℕ} 0 1 = ap is_body e in absurd (omega arith)

module _ (file : List ℕ) (start size : ℕ) where
  -- a byte of a body is a byte of the file
  body_at : (i : ℕ) → i < size → get_or (body_of file (Body start size)) i 0 ≡ get_or file (start + i) 0
  body_at i h = get_or-take size (drop start file) i 0 h ∙ get_or-drop start file i 0

  -- and so is a row
  pub four_bytes_at_lem : (i : ℕ) → i + 3 < size
      → four_bytes_at (body_of file (Body start size)) i ≡ four_bytes_at file (start + i)
  four_bytes_at_lem i h =
      rw (
        body_at i (omega arith),
        body_at (i + 1) (omega arith),
        body_at (i + 2) (omega arith),
        body_at (i + 3) (omega arith),
      )
      (rw (next 1, next 2, next 3) refl)
    where
      next : (k : ℕ) → start + (i + k) ≡ start + i + k
      next k = omega arith

  -- a body that stands inside the file is as long as it says
  body_long : start + size ≤ length file → length (body_of file (Body start size)) ≡ size
  body_long h = omega (arith, length-take size (drop start file), length-drop start file)

-- ---- a test and what it tells

-- a test that is true where a rule is broken
breaks_rule_lem : {t : Bool} {Rule : Type 0} → Means (not t) Rule → Means t (Rule → ⊥)
breaks_rule_lem {t} {Rule} m = go t m
  where
    go : (t : Bool) → Means (not t) Rule → Means t (Rule → ⊥)
    go true m = (λ e r. never (m.1 r), λ f. refl)
    go false m = (λ e. never e, λ f. absurd (f (m.0 refl)))

-- a test is true exactly where a line applies, and then it applies at this place only
abbrev pub Tells : Bool → ℕ → (ℕ → Type 0) → Type 0
Tells t place Applies = (t ≡ true → Applies place) × ((p : ℕ) → Applies p → (t ≡ true) × (p ≡ place))

tells_at : {t : Bool} {place this : ℕ} {P : Type 0} → Means t P → place ≡ this → Tells t place (At this P)
tells_at m same = (λ e. (m.0 e, same), λ p x. (m.1 x.0, x.1 ∙ sym same))

-- a comparison, said by the line in its own words
pub tells_below : (a b : ℕ) {place this : ℕ} {P : Type 0} → (a < b → P) → (P → a < b) → place ≡ this
    → Tells (ltb a b) place (At this P)
tells_below a b f g = tells_at (means_as f g means_lt)

-- ---- any section

-- "In each section the count is read, then its rule tested, then the body's length, then its bytes."
abbrev pub ordered : List ℕ → ℕ → Bool → Bool → Bool → Section → Section
ordered file count a b c section =
    cond a (Refused 12 (length file)) (cond b (Refused 13 count) (cond c (Refused 12 (length file)) section))

-- its tests mean the rule of its count and the rule of its pieces
pub record Meant (file : List ℕ) (count : ℕ) (breaks : Bool) (Rule : Type 0) (size pieces width : ℕ)
    (test : List ℕ → ℕ → Bool) (Keeps : ℕ → Type 0) : Type 0 where
  pub ruled : Means (not breaks) Rule
  pub sized : size ≡ pieces * width
  pub whole : size / width ≡ pieces
  pub piece : (i : ℕ) → i < pieces
      → Means (not (test (body_of file (Body (count + 2) size)) (i * width))) (Keeps (count + 2 + i * width))

-- what an accepted section says
pub record KeptSection (file : List ℕ) (count : ℕ) (Rule : Type 0) (size pieces width : ℕ) (Keeps : ℕ → Type 0)
    (start long : ℕ) : Type 0 where
  pub starts : start ≡ count + 2
  pub sized : long ≡ size
  pub inside : start + long ≤ length file
  pub rule : Rule
  pub each : (i : ℕ) → i < pieces → Keeps (count + 2 + i * width)

module _ {file : List ℕ} {count : ℕ} {breaks : Bool} {Rule : Type 0} {size pieces width : ℕ} {test : List ℕ → ℕ → Bool}
    {Keeps : ℕ → Type 0}
    (meant : Meant file count breaks Rule size pieces width test Keeps) where
  abbrev body : List ℕ
  body = body_of file (Body (count + 2) size)

  abbrev broken : ℕ
  broken = first (length body / width) (λ i. test body (i * width))

  abbrev Inside : Type 0
  Inside = ltb (length file) (count + 2 + size) ≡ false

  all : Inside → length body / width ≡ pieces
  all inside =
      ap (λ (l : ℕ). l / width) (body_long file (count + 2) size (ltb-false (length file) (count + 2 + size) inside))
      ∙ meant.whole

  pub kept : (start long : ℕ) → start ≡ count + 2 → long ≡ size → breaks ≡ false → Inside
      → ltb broken (length body / width) ≡ false
      → KeptSection file count Rule size pieces width Keeps start long
  kept start long starts sized ruled inside none =
      record {
        starts = starts;
        sized = sized;
        inside = omega (arith, starts, sized, ltb-false (length file) (count + 2 + size) inside);
        rule = meant.ruled.0 (ap not ruled);
        each =
            λ i h. (meant.piece i h).0 (ap not (not_some (length body / width) (λ j. test body (j * width)) none i
            (omega (arith, h, all inside))));
      }

  -- 13: "a count breaks its rule"
  pub tells_rule : {this : ℕ} → count ≡ this → Tells breaks count (At this (Rule → ⊥))
  tells_rule = tells_at (breaks_rule_lem meant.ruled)

  -- 14: "a byte or row breaks its rule"
  pub tells_first : Inside
      → Tells (ltb broken (length body / width)) (count + 2 + broken * width)
      (FirstThatBreaks (count + 2) pieces width Keeps)
  tells_first inside = (found, only)
    where
      test_at : ℕ → Bool
      test_at i = test body (i * width)

      found : ltb broken (length body / width) ≡ true
          → FirstThatBreaks (count + 2) pieces width Keeps (count + 2 + broken * width)
      found e =
          let l = ltb-true broken (length body / width) e in
          let few : broken < pieces = omega (arith, l, all inside) in (
            broken,
            few,
            omega arith,
            (breaks_rule_lem (meant.piece broken few)).0 (first_holds (length body / width) test_at l),
            λ j h. (meant.piece j (omega (arith, h, few))).0
                (ap not (first_before (length body / width) test_at j (omega (arith, h)))),
          )

      only : (p : ℕ) → FirstThatBreaks (count + 2) pieces width Keeps p
          → (ltb broken (length body / width) ≡ true) × (p ≡ count + 2 + broken * width)
      only p x =
          let broke : test_at x.0 ≡ true = (breaks_rule_lem (meant.piece x.0 x.1)).1 (rw x.2 at x.3) in
          let whole : (j : ℕ) → j < x.0 → test_at j ≡ false =
          λ j h. not_false (breaks_rule_lem (meant.piece j (omega (arith, h, x.1))))
          (λ f. f (x.4 j (omega (arith, h)))) in
          let e : broken ≡ x.0 =
          first_at (length body / width) test_at x.0 whole broke (omega (arith, x.1, all inside)) in (
            lt-ltb broken (length body / width) (omega (arith, e, x.1, all inside)),
            x.2 ∙ ap (λ (k : ℕ). count + 2 + k * width) (sym e),
          )

  -- inside the file
  pub first_near : Inside → ltb broken (length body / width) ≡ true → count + 2 + broken * width ≤ length file
  first_near inside e =
      let few : broken ≤ pieces = omega (arith, ltb-true broken (length body / width) e, all inside) in
      omega (arith, ltb-false (length file) (count + 2 + size) inside, meant.sized, mul-le-mul_right width few)

  pub section_body : (start long : ℕ) → section_at file count breaks size width test ≡ Body start long
      → KeptSection file count Rule size pieces width Keeps start long
  unfolding section_at
  section_body start long e =
      go (ltb (length file) (count + 2)) breaks (ltb (length file) (count + 2 + size))
      (ltb broken (length body / width)) refl refl refl e
    where
      go : (a b c d : Bool) → breaks ≡ b → ltb (length file) (count + 2 + size) ≡ c
          → ltb broken (length body / width) ≡ d
          → ordered file count a b c (cond d (Refused 14 (count + 2 + broken * width)) (Body (count + 2) size))
          ≡ Body start long
          → KeptSection file count Rule size pieces width Keeps start long
      go true b c d x y z e = never_body e
      go false true c d x y z e = never_body e
      go false false true d x y z e = never_body e
      go false false false true x y z e = never_body e
      go false false false false x y z e = kept start long (sym (ap (start_or 0) e)) (sym (ap (size_or 0) e)) x y z

-- ---- the four sections

means_bit : (x : ℕ) → Means (not (ltb 1 x)) (x < 2)
means_bit x = means_as {P = 1 < x → ⊥} (λ f. omega (arith, f)) (λ l q. omega arith) (means_not means_lt)

module _ (file : List ℕ) where
  -- a section of bits
  bits_meant : (count size : ℕ) {breaks : Bool} {Rule : Type 0} → Means (not breaks) Rule
      → Meant file count breaks Rule size size 1 not_bit (BitAt file)
  bits_meant count size ruled =
      record {
        ruled = ruled;
        sized = omega arith;
        whole = omega arith;
        piece =
            λ i h. subst (λ (x : ℕ). Means (not (ltb 1 x)) (BitAt file (count + 2 + i * 1)))
            (sym (body_at file (count + 2) size (i * 1) (omega (arith, h))))
            (means_bit (get_or file (count + 2 + i * 1) 0));
      }

  pub proposals_meant : Meant file 0 (not_heads (count_at file 0)) (Heads (count_at file 0)) (count_at file 0)
      (count_at file 0) 1 not_bit (BitAt file)
  unfolding not_heads
  proposals_meant =
      bits_meant 0 (count_at file 0) (means_twice
      (means_and (means_le 2 (count_at file 0)) (means_le (count_at file 0) 32)))

  pub needed_meant : (count n : ℕ)
      → Meant file count (not (eqb (count_at file count) 1)) (count_at file count ≡ 1) 1 1 1 (not_need n) (Need n file)
  needed_meant count n =
      record {
        ruled = means_twice (means_eq (count_at file count) 1);
        sized = omega arith;
        whole = omega arith;
        piece = λ i h.
            let k = get_or file (count + 2 + i * 1) 0 in
            subst (λ (x : ℕ). Means (not (not (ltb n (x * 2) && leb x n))) ((n < k * 2) × (k ≤ n)))
            (sym (body_at file (count + 2) 1 (i * 1) (omega (arith, h))))
            (means_twice (means_and means_lt (means_le k n)));
      }

  pub losses_meant : (count n : ℕ)
      → Meant file count (ltb 256 (count_at file count)) (count_at file count ≤ 256) (count_at file count * n * 4)
      (count_at file count * n) 4 (not_row n) (LossRow n file)
  losses_meant count n =
      record {
        ruled =
            means_as {P = 256 < count_at file count → ⊥} (λ f. omega (arith, f)) (λ l q. omega arith)
            (means_not means_lt);
        sized = refl;
        whole = omega arith;
        piece = λ i h.
            subst (λ (x : ℕ). Means (not (not (within n x))) (LossRow n file (count + 2 + i * 4)))
            (sym (four_bytes_at_lem file (count + 2) (count_at file count * n * 4) (i * 4) (omega (arith, h))))
            (means_twice (means_within n (four_bytes_at file (count + 2 + i * 4))));
      }

  pub coins_meant : (count rows : ℕ)
      → Meant file count (not (eqb (count_at file count) rows)) (count_at file count ≡ rows) rows rows 1 not_bit
      (BitAt file)
  coins_meant count rows = bits_meant count rows (means_twice (means_eq (count_at file count) rows))

  -- ---- where their bodies stand, for the code

  pub record Proposals (start n : ℕ) : Type 0 where
    pub starts : start ≡ 2
    pub heads : Heads n

  pub proposals_body : (start n : ℕ) → proposals_of file ≡ Body start n → Proposals start n
  unfolding proposals_of
  proposals_body start n e =
      let K =
      section_body proposals_meant start n e in record
      { starts = K.starts; heads = subst Heads (sym K.sized) K.rule }

  pub record Needed (at start one : ℕ) : Type 0 where
    pub starts : start ≡ at + 2
    pub single : one ≡ 1

  pub needed_body : (at n start one : ℕ) → needed_of file at n ≡ Body start one → Needed at start one
  unfolding needed_of
  needed_body at n start one e =
      let K = section_body (needed_meant at n) start one e in record { starts = K.starts; single = K.sized }

  pub record Losses (at n start size : ℕ) : Type 0 where
    pub starts : start ≡ at + 2
    pub rounds : count_at file at ≤ 256
    pub sized : size ≡ count_at file at * n * 4

  pub losses_body : (at n start size : ℕ) → losses_of file at n ≡ Body start size → Losses at n start size
  unfolding losses_of
  losses_body at n start size e =
      let K =
      section_body (losses_meant at n) start size e in record { starts = K.starts; rounds = K.rule; sized = K.sized }

  pub coins_body : (at count start size : ℕ) → coins_of file at count ≡ Body start size
      → KeptSection file at (count_at file at ≡ count) count count 1 (BitAt file) start size
  unfolding coins_of
  coins_body at count = section_body (coins_meant at count)
