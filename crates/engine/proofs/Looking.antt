-- Looking at one ballot after the other, none of them refused.
use Prim.Native.Nat.{ℕ, zero, suc, ◌+◌, ◌≤◌, ◌<◌}
use mathlib.Core.Path.{◌≡◌, refl, sym, ap, subst, ◌∙◌}
use mathlib.Core.List.{List, [], ◌∷◌}
use mathlib.Core.Bool.{Bool, true, cond}
use native.Mathlib.Decide.{dec_lt, ℕ_discrete}
use native.Mathlib.Omega.{arith}
use lib.Dec.{eqb, lit<}
use lib.ListN.{length, get_or, set}
use lib.Seq.{get_or-set_same, get_or-set_other}
use lib.Bits.{bit_or}
use borrow.Author.Tests.{eq-eqb, ne_eqb}
use Rattle.rules.specs.declared.Head.{Head}
use Rattle.rules.specs.Below.{some, first}
use Rattle.rules.specs.Ballot.{ballot_at}
use Rattle.rules.specs.Heard.{member, set_of}
use Rattle.rules.specs.Tick.{ballots}
use Rattle.rules.proofs.Counting.Below.{NoneBefore, some_here, some_not, search_starts, search_finds, search_ends}
use Rattle.rules.proofs.Counting.Truth.{means_and, means_lt, means_eq}
use Rattle.rules.proofs.Counting.Sets.{member_set_of}
use Rattle.engine.specs.declared.look.Look.{Look}
use Rattle.engine.specs.Look.{refused, alone, code, nobody_said, highest, is_of, is_late, listed_in, said_in, late_in, look_at, unlooked, Looks, GoesOn, KnownIn}
use Rattle.engine.proofs.Growing.{nobody, highest_stays, highest_rises, highest_most, highest_least, listed_grows, said_grows, said_other, late_stays, listed_stays, said_stays, late_grows, listed_begins, said_begins, late_begins}

-- what holds of the numbers below five
pub five : (P : ℕ → Type 0) → P 0 → P 1 → P 2 → P 3 → P 4 → (c : ℕ) → c < 5 → P c
five P a b c d e zero h = a
five P a b c d e (suc zero) h = b
five P a b c d e (suc (suc zero)) h = c
five P a b c d e (suc (suc (suc zero))) h = d
five P a b c d e (suc (suc (suc (suc zero)))) h = e
five P a b c d e (suc (suc (suc (suc (suc k))))) h = absurd (omega arith)

-- the sets of a look by place
abbrev pub said_of : Look → List ℕ
said_of look = look.zeros ∷ look.zeros_decided ∷ look.ones ∷ look.ones_decided ∷ look.blanks ∷ []

-- the fields of a look at the first k ballots, one by one
abbrev pub Sees : Head → List ℕ → ℕ → ℕ → ℕ → ℕ → List ℕ → Type 0
Sees h l k p listed elsewhere said =
    (highest h l k ≡ p) × (listed ≡ listed_in l k p) × (elsewhere ≡ late_in l k p) × ((c : ℕ) → c < 5 → get_or said c 0 ≡ said_in l k p c)

abbrev pub look_with : ℕ → ℕ → ℕ → ℕ → List ℕ → Look
look_with k p listed elsewhere said =
    record {
      next =
          k;
      phase = p;
      listed = listed;
      elsewhere = elsewhere;
      zeros = get_or said 0 0;
      zeros_decided = get_or said 1 0;
      ones = get_or said 2 0;
      ones_decided = get_or said 3 0;
      blanks = get_or said 4 0;
    }

-- another set at a place
module _ (said : List ℕ) (c x : ℕ) (b : c < length said) where
  pub there : get_or (set said c x) c 0 ≡ x
  there = get_or-set_same said c x 0 b

  pub elsewhere_same : (k : ℕ) → (c ≡ k → ⊥) → get_or (set said c x) k 0 ≡ get_or said k 0
  elsewhere_same k n = get_or-set_other said c k x 0 (λ e. n (sym e))

  pub at_each : (k : ℕ) → get_or (set said c x) k 0 ≡ cond (eqb c k) x (get_or said k 0)
  at_each k = go (ℕ_discrete c k)
    where
      go : Dec (c ≡ k) → get_or (set said c x) k 0 ≡ cond (eqb c k) x (get_or said k 0)
      go (yes e) =
          ap (λ (j : ℕ). get_or (set said c x) j 0) (sym e)
          ∙ there
          ∙ sym (ap (λ (y : Bool). cond y x (get_or said k 0)) (eq-eqb c k e))
      go (no n) = elsewhere_same k n ∙ sym (ap (λ (y : Bool). cond y x (get_or said k 0)) (ne_eqb c k n))

module _ (h : Head) (l : List ℕ) where
  pub sees : (k : ℕ) (look : Look) → look ≡ look_at h l k
      → Sees h l k look.phase look.listed look.elsewhere (said_of look)
  unfolding look_at
  sees k look e =
      let p : highest h l k ≡ look.phase = sym (ap (λ (x : Look). x.phase) e) in (
        p,
        ap (λ (x : Look). x.listed) e ∙ ap (listed_in l k) p,
        ap (λ (x : Look). x.elsewhere) e ∙ ap (late_in l k) p,
        five (λ c. get_or (said_of look) c 0 ≡ said_in l k look.phase c)
            (ap (λ (x : Look). x.zeros) e ∙ ap (λ (q : ℕ). said_in l k q 0) p)
            (ap (λ (x : Look). x.zeros_decided) e ∙ ap (λ (q : ℕ). said_in l k q 1) p)
            (ap (λ (x : Look). x.ones) e ∙ ap (λ (q : ℕ). said_in l k q 2) p)
            (ap (λ (x : Look). x.ones_decided) e ∙ ap (λ (q : ℕ). said_in l k q 3) p)
            (ap (λ (x : Look). x.blanks) e ∙ ap (λ (q : ℕ). said_in l k q 4) p),
      )

  pub seen : (k p listed elsewhere : ℕ) (said : List ℕ) → Sees h l k p listed elsewhere said
      → look_with k p listed elsewhere said ≡ look_at h l k
  unfolding look_at
  seen k p listed elsewhere said s =
      simp (s.0, s.1, s.2, s.3 0 (lit< tt), s.3 1 (lit< tt), s.3 2 (lit< tt), s.3 3 (lit< tt), s.3 4 (lit< tt))

  pub phase_least : (k : ℕ) (look : Look) → look ≡ look_at h l k → h.phase ≤ look.phase
  phase_least k look e = omega (arith, highest_least h l k, (sees k look e).0)

  -- before the first ballot
  pub look_starts : look_with 0 h.phase 0 0 nobody_said ≡ look_at h l 0
  unfolding highest
  look_starts =
      seen 0 h.phase 0 0 nobody_said
      (refl, none (is_of l h.phase), none (is_late l h.phase), five (λ c. get_or nobody_said c 0 ≡ said_in l 0 h.phase c) (none _) (none _) (none _) (none _) (none _))
    where
      none : (p : ℕ → ℕ → Bool) → 0 ≡ set_of 32 (λ s. some 0 (p s))
      none p = nobody _ (λ s. some_not 0 (p s) (λ j b. absurd (omega arith)))

  module _ (i p listed elsewhere : ℕ) (said : List ℕ) (s : Sees h l i p listed elsewhere said) where
    -- with a ballot of the phase
    pub sees_present : (c a : ℕ) → length said ≡ 5 → (ballot_at l i).phase ≡ p → c ≡ code (ballot_at l i) → c < 5
        → a ≡ alone (ballot_at l i).sender
        → Sees h l (i + 1) p (bit_or listed a) elsewhere (set said c (bit_or (get_or said c 0) a))
    sees_present c a long e d few w = (
      sym (highest_stays h l i (omega (arith, s.0))) ∙ s.0,
      ap (λ (x : ℕ). bit_or x a) s.1 ∙ ap (bit_or (listed_in l i p)) w ∙ listed_grows l i p e,
      s.2 ∙ late_stays l i p (omega arith),
      each,
    )
      where
        x : ℕ
        x = bit_or (get_or said c 0) a

        each : (k : ℕ) → k < 5 → get_or (set said c x) k 0 ≡ said_in l (i + 1) p k
        each k m = go (ℕ_discrete c k)
          where
            go : Dec (c ≡ k) → get_or (set said c x) k 0 ≡ said_in l (i + 1) p k
            go (yes q) =
                ap (λ (j : ℕ). get_or (set said c x) j 0) (sym q)
                ∙ there said c x (omega (arith, few, long))
                ∙ ap (λ (y : ℕ). bit_or y a) (s.3 c few ∙ ap (said_in l i p) d)
                ∙ ap (bit_or (said_in l i p (code (ballot_at l i)))) w
                ∙ said_grows l i p e
                ∙ ap (said_in l (i + 1) p) (sym d ∙ q)
            go (no n) =
                elsewhere_same said c x (omega (arith, few, long)) k n
                ∙ s.3 k m
                ∙ said_other l i p k (λ z. n (d ∙ z))

    -- who sent an earlier one of a lower phase
    pub late_known : (ballot_at l i).phase < p → KnownIn elsewhere l i
    late_known b j m e low =
        ap (member (ballot_at l j).sender) s.2
        ∙ member_set_of 32 _ (ballot_at l j).sender low
        ∙ some_here i (is_late l p (ballot_at l j).sender) j m
        ((means_and (means_lt {a = (ballot_at l j).phase} {b = p}) (means_eq (ballot_at l j).sender (ballot_at l j).sender)).1 (omega (arith, e), refl))

    -- with one of a lower phase
    pub sees_late : (a : ℕ) → (ballot_at l i).phase < p → a ≡ alone (ballot_at l i).sender
        → Sees h l (i + 1) p listed (bit_or elsewhere a) said
    sees_late a b w = (
      sym (highest_stays h l i (omega (arith, s.0))) ∙ s.0,
      s.1 ∙ listed_stays l i p b,
      ap (λ (x : ℕ). bit_or x a) s.2 ∙ ap (bit_or (late_in l i p)) w ∙ late_grows l i p b,
      λ c m. s.3 c m ∙ said_stays l i p b c,
    )

    -- with one of a higher phase
    pub sees_ahead : (c a : ℕ) → p < (ballot_at l i).phase → c ≡ code (ballot_at l i) → c < 5 → a ≡ alone (ballot_at l i).sender
        → Sees h l (i + 1) (ballot_at l i).phase a (bit_or elsewhere listed) (set nobody_said c a)
    sees_ahead c a b d few w =
        let most : (j : ℕ) → j < i → (ballot_at l j).phase ≤ p = λ j m. omega (arith, highest_most h l i j m, s.0) in (
          sym (highest_rises h l i (omega (arith, s.0))),
          w ∙ listed_begins l i p (ballot_at l i).phase most b refl,
          ap (λ (x : ℕ). bit_or x listed) s.2 ∙ ap (bit_or (late_in l i p)) s.1 ∙ late_begins l i p (ballot_at l i).phase most b refl,
          λ k m. one k m ∙ ap (λ (x : ℕ). cond (eqb x k) a 0) d ∙ ap (λ (x : ℕ). cond (eqb (code (ballot_at l i)) k) x 0) w ∙ said_begins l i p (ballot_at l i).phase most b refl k,
        )
      where
        one : (k : ℕ) → k < 5 → get_or (set nobody_said c a) k 0 ≡ cond (eqb c k) a 0
        one k m =
            at_each nobody_said c a few k
            ∙ ap (cond (eqb c k) a) (five (λ j. ◌≡◌ {A = ℕ} (get_or nobody_said j 0) 0) refl refl refl refl refl k m)

  -- a look that goes on to index i
  pub goes_on : (R : ℕ → ℕ → Type 0) (from : Look) (i p listed elsewhere : ℕ) (said : List ℕ) (look : Look)
      → look ≡ look_with i p listed elsewhere said
      → from.next ≤ i → i ≤ ballots l → NoneBefore i (refused h l) → Sees h l i p listed elsewhere said
      → (i < ballots l → R (ballot_at l i).phase p → refused h l i ≡ true)
      → GoesOn h l R from look
  goes_on R from i p listed elsewhere said look e a b none s t =
      subst (GoesOn h l R from) (sym e) ((b, none, seen i p listed elsewhere said s), a, t)

  pub looks_start : (look : Look) → look ≡ unlooked h → Looks h l look
  looks_start look e = subst (Looks h l) (sym e) (omega arith, search_starts (refused h l), look_starts)

  -- a stage's word on the ballot that follows, by the highest phase before it
  stuck_at : (Rel : ℕ → ℕ → Type 0) (x : Look) (k : ℕ) → x ≡ look_at h l x.next → x.next ≡ k
      → (x.next < ballots l → Rel (ballot_at l x.next).phase x.phase → refused h l x.next ≡ true)
      → k < ballots l → Rel (ballot_at l k).phase (highest h l k) → refused h l k ≡ true
  stuck_at Rel x k is e f b r =
      ap (refused h l) (sym e)
      ∙ f (omega arith) (subst (Rel (ballot_at l x.next).phase) (sees x.next x is).0 (subst (λ (m : ℕ). Rel (ballot_at l m).phase (highest h l m)) (sym e) r))

  -- a turn in which no stage takes a ballot has come to the first that is refused
  pub turn_ends : (look a b c : Look) → look.next < ballots l → GoesOn h l (λ p q. p ≡ q) look a
      → GoesOn h l (λ p q. p < q) a b → GoesOn h l (λ p q. (c.next ≡ b.next) × (q < p)) b c → c.next ≡ look.next
      → c ≡ look_at h l (first (ballots l) (refused h l))
  turn_ends look a b c m ga gb gc e =
      gc.0.2
      ∙ ap (look_at h l) (search_finds (ballots l) c.next (refused h l) gc.0.1 next (omega arith))
    where
      same_a : a.next ≡ c.next
      same_a = omega (arith, ga.1, gb.1, gc.1)

      same_b : b.next ≡ c.next
      same_b = omega (arith, ga.1, gb.1, gc.1)

      next : refused h l c.next ≡ true
      next =
          go (dec_lt (ballot_at l c.next).phase (highest h l c.next)) (dec_lt (highest h l c.next) (ballot_at l c.next).phase)
        where
          go : Dec ((ballot_at l c.next).phase < highest h l c.next)
              → Dec (highest h l c.next < (ballot_at l c.next).phase) → refused h l c.next ≡ true
          go (yes q) d = stuck_at (λ p r. p < r) b c.next gb.0.2 same_b gb.2 (omega arith) q
          go (no q) (yes r) =
              stuck_at (λ p r. r < p) c c.next gc.0.2 refl (λ i u. gc.2 i (sym same_b, u)) (omega arith) r
          go (no q) (no r) = stuck_at (λ p r. p ≡ r) a c.next ga.0.2 same_a ga.2 (omega arith) (omega arith)

  pub list_ends : (look : Look) → Looks h l look → ballots l ≤ look.next
      → look ≡ look_at h l (first (ballots l) (refused h l))
  list_ends look is b = is.2 ∙ ap (look_at h l) (search_ends (ballots l) look.next (refused h l) is.1 is.0 b)
