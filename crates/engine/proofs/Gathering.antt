-- What a look tells at its end: the number that a list gives, and the head after steps 1 and 2.
use Prim.Native.Nat.{ℕ, ◌^◌, ◌+◌, ◌*◌, ◌%◌, ◌≤◌, ◌<◌}
use mathlib.Core.Path.{◌≡◌, refl, sym, ap, ap₂, fun_ext, ◌∙◌}
use mathlib.Core.List.{List}
use mathlib.Core.Bool.{Bool, true, false, cond, ◌&&◌, ◌||◌}
use mathlib.Core.Logic.{◌⊎◌, inl, inr}
use native.Mathlib.Decide.{ℕ_discrete}
use native.Mathlib.Omega.{arith}
use lib.Dec.{ltb, eqb, lit<}
use lib.ListN.{length, get_or}
use borrow.Author.Tests.{ltb-true, lt-ltb, le-ltb, ne_eqb}
use Rattle.rules.specs.declared.Value.{Value}
use Rattle.rules.specs.declared.Value.TheVariants.{Zero, One, Blank}
use Rattle.rules.specs.declared.Status.{Status}
use Rattle.rules.specs.declared.Status.TheVariants.{Undecided, Decided}
use Rattle.rules.specs.declared.Ballot.{Ballot}
use Rattle.rules.specs.declared.Head.{Head}
use Rattle.rules.specs.Answer.{Ticked}
use Rattle.rules.specs.Number.{first_that_applies}
use Rattle.rules.specs.Below.{first, some}
use Rattle.rules.specs.Ballot.{value_code, status_code, same_value, ballot_at, breaks_rule}
use Rattle.rules.specs.Heard.{member, set_of, heard, says}
use Rattle.rules.specs.Head.{sound}
use Rattle.rules.specs.Tick.{ballots, leader, copying, moved, heard_with, added, gathered, own_otherwise, contradicts, offender}
use Rattle.rules.proofs.Counting.Truth.{Means, false_not, not_false, means_same, means_as, means_self, means_and, means_or, means_eq, and_never, or_left_false, or_right_false, or_never}
use Rattle.rules.proofs.Counting.Below.{NoneBefore, first_le, first_before, first_holds, first_at, some_here, some_not, not_some, means_some, search_finds}
use Rattle.rules.proofs.Counting.Sets.{member_none, member_set_of, means_member, member_or, set_of_lt, set_of_is, means_within}
use Rattle.rules.specs.Given.{Sound}
use Rattle.rules.proofs.Meaning.Meanings.{status_low, means_sound}
use Rattle.rules.proofs.OneTick.Leader.{means_ahead, Leads, leader_leads, leader_highest}
use Rattle.rules.proofs.OneTick.Senders.{Moves, stays, copies, moves}
use Rattle.engine.specs.declared.look.Look.{Look}
use Rattle.engine.specs.Look.{refused, code, highest, is_said, said_in, look_at, Looks, Fits, value_by, status_by, foremost, shown, list_number, listened}
use Rattle.engine.proofs.Growing.{highest_most, highest_least, highest_within}
use Rattle.engine.proofs.Refusing.{code_low, stands_clean, clean_low, one_code}
use Rattle.engine.proofs.Looking.{said_of, sees}

-- ---- the first that is refused

pub found : (k r : ℕ) (p : ℕ → Bool) → r ≡ first k p → r < k → some k p ≡ true
found k r p e b = ap (λ (x : ℕ). ltb x k) (sym e) ∙ lt-ltb r k b

pub missed : (k r : ℕ) (p : ℕ → Bool) → r ≡ first k p → k ≤ r → some k p ≡ false
missed k r p e b = ap (λ (x : ℕ). ltb x k) (sym e) ∙ le-ltb r k b

pub fits_sound : (h : Head) → sound h ≡ true → Fits h
fits_sound h e = let s = (means_sound h).0 e in (s.heads.1, omega (arith, s.heads.1, s.own))

module _ (h : Head) (l : List ℕ) where
  pub before_first : (at : ℕ) → at ≡ first (ballots l) (refused h l) → NoneBefore at (refused h l)
  before_first at e j b = first_before (ballots l) (refused h l) j (omega arith)

  pub first_refused : (at : ℕ) → at ≡ first (ballots l) (refused h l) → at < ballots l → refused h l at ≡ true
  first_refused at e b = ap (refused h l) e ∙ first_holds (ballots l) (refused h l) (omega arith)

  pub looked_next : (look : Look) → look ≡ look_at h l (first (ballots l) (refused h l))
      → look.next ≡ first (ballots l) (refused h l)
  unfolding look_at
  looked_next look e = ap (λ (x : Look). x.next) e

  -- a look that came to the end
  pub looked_all : (look : Look) → look ≡ look_at h l (first (ballots l) (refused h l)) → ballots l ≤ look.next
      → Looks h l look × (look.next ≡ ballots l)
  looked_all look e b =
      let next = looked_next look e in
      let most = first_le (ballots l) (refused h l) in
      ((omega arith, before_first look.next next, e ∙ ap (look_at h l) (sym next)), omega arith)

-- ---- the number

module _ (h : Head) (l : List ℕ) where
  not_6 : (j : ℕ) → refused h l j ≡ false → breaks_rule h.n l j ≡ false
  not_6 j e = stands_clean h l j e

  pub not_7 : (j : ℕ) → refused h l j ≡ false → own_otherwise h (ballot_at l j) ≡ false
  unfolding refused
  not_7 j e = or_left_false (own_otherwise h (ballot_at l j)) _ (or_right_false (breaks_rule h.n l j) _ e)

  not_8 : (j : ℕ) → refused h l j ≡ false → contradicts h l j ≡ false
  unfolding refused
  not_8 j e = or_right_false (own_otherwise h (ballot_at l j)) _ (or_right_false (breaks_rule h.n l j) _ e)

  -- none is refused
  pub list_0 : NoneBefore (ballots l) (refused h l) → list_number h l ≡ 0
  unfolding list_number first_that_applies
  list_0 none =
      simp (
        some_not (ballots l) (breaks_rule h.n l) (λ j b. not_6 j (none j b)),
        some_not (ballots l) (λ i. own_otherwise h (ballot_at l i)) (λ j b. not_7 j (none j b)),
        some_not (ballots l) (contradicts h l) (λ j b. not_8 j (none j b)),
      )

  pub list_6 : (index : ℕ) → index ≡ first (ballots l) (breaks_rule h.n l) → index < ballots l
      → ◌≡◌ {A = Ticked} (record { number = 6; index = index; head = h }) (listened h l)
  unfolding listened list_number offender first_that_applies
  list_6 index is b = simp (found _ _ _ is b, is)

  pub list_7 : (index : ℕ) → some (ballots l) (breaks_rule h.n l) ≡ false
      → index ≡ first (ballots l) (λ i. own_otherwise h (ballot_at l i)) → index < ballots l
      → ◌≡◌ {A = Ticked} (record { number = 7; index = index; head = h }) (listened h l)
  unfolding listened list_number offender first_that_applies
  list_7 index e is b = simp (e, found _ _ _ is b, is)

  -- one is, but by neither 6 nor 7
  module _ (at : ℕ) (is : at ≡ first (ballots l) (refused h l)) (b : at < ballots l) (e : some (ballots l) (breaks_rule h.n l) ≡ false)
      (q : some (ballots l) (λ i. own_otherwise h (ballot_at l i)) ≡ false) where
    contradicts_here : contradicts h l at ≡ true
    unfolding refused
    contradicts_here =
        left (breaks_rule h.n l at) (own_otherwise h (ballot_at l at)) (contradicts h l at) (not_some (ballots l) (breaks_rule h.n l) e at b) (not_some (ballots l) (λ i. own_otherwise h (ballot_at l i)) q at b) (first_refused h l at is b)
      where
        left : (x y z : Bool) → x ≡ false → y ≡ false → x || (y || z) ≡ true → z ≡ true
        left x y z p q r = sym (ap₂ (λ (s t : Bool). s || (t || z)) p q) ∙ r

    -- and none before it gives 8
    first_contradicts : at ≡ first (ballots l) (contradicts h l)
    first_contradicts =
        search_finds (ballots l) at (contradicts h l) (λ j a. not_8 j (before_first h l at is j a)) contradicts_here b

    pub list_8 : ◌≡◌ {A = Ticked} (record { number = 8; index = at; head = h }) (listened h l)
    unfolding listened list_number offender first_that_applies
    list_8 = simp (e, q, found _ _ _ first_contradicts b, first_contradicts)

-- ---- steps 1 and 2, by the look

-- the ballot at index i is of a higher phase
abbrev above : Head → List ℕ → ℕ → Bool
above h l i = ltb h.phase (ballot_at l i).phase

some_or : (k : ℕ) (a b : ℕ → Bool) → some k a || some k b ≡ some k (λ j. a j || b j)
some_or k a b =
    means_same (means_as to from (means_or (means_some (λ j. means_self (a j))) (means_some (λ j. means_self (b j)))))
    (means_some (λ j. means_or (means_self (a j)) (means_self (b j))))
  where
    to : ((j : ℕ) × (j < k) × (a j ≡ true)) ⊎ ((j : ℕ) × (j < k) × (b j ≡ true))
        → (j : ℕ) × (j < k) × ((a j ≡ true) ⊎ (b j ≡ true))
    to (inl r) = (r.0, r.1, inl r.2)
    to (inr r) = (r.0, r.1, inr r.2)

    from : (j : ℕ) × (j < k) × ((a j ≡ true) ⊎ (b j ≡ true))
        → ((j : ℕ) × (j < k) × (a j ≡ true)) ⊎ ((j : ℕ) × (j < k) × (b j ≡ true))
    from (j, m, inl e) = inl (j, m, e)
    from (j, m, inr e) = inr (j, m, e)

-- two codes for each value
two_codes : (v : Value) (b : Ballot)
    → eqb (code b) (value_code v * 2) || eqb (code b) (value_code v * 2 + 1) ≡ same_value b.value v
two_codes v b =
    means_same
    (means_as to from (means_or (means_eq (code b) (value_code v * 2)) (means_eq (code b) (value_code v * 2 + 1))))
    (means_eq (value_code b.value) (value_code v))
  where
    to : (code b ≡ value_code v * 2) ⊎ (code b ≡ value_code v * 2 + 1) → value_code b.value ≡ value_code v
    to (inl e) = omega (arith, status_low b.status)
    to (inr e) = omega (arith, status_low b.status)

    from : value_code b.value ≡ value_code v → (code b ≡ value_code v * 2) ⊎ (code b ≡ value_code v * 2 + 1)
    from e = go (ℕ_discrete (status_code b.status) 0)
      where
        go : Dec (status_code b.status ≡ 0) → (code b ≡ value_code v * 2) ⊎ (code b ≡ value_code v * 2 + 1)
        go (yes z) = inl (omega arith)
        go (no n) = inr (omega (arith, n, status_low b.status))

-- a value and a status, by what their code is
value_told : (v : Value) (t : Status) → value_code v * 2 + status_code t < 5
    → cond (eqb (value_code v * 2 + status_code t) 4) Blank (cond (eqb (value_code v * 2 + status_code t) 2 || eqb (value_code v * 2 + status_code t) 3) One Zero) ≡ v
value_told Zero Undecided b = refl
value_told Zero Decided b = refl
value_told One Undecided b = refl
value_told One Decided b = refl
value_told Blank Undecided b = refl
value_told Blank Decided b = absurd (omega arith)

status_told : (v : Value) (t : Status) → value_code v * 2 + status_code t < 5
    → cond (eqb (value_code v * 2 + status_code t) 1 || eqb (value_code v * 2 + status_code t) 3) Decided Undecided ≡ t
status_told Zero Undecided b = refl
status_told Zero Decided b = refl
status_told One Undecided b = refl
status_told One Decided b = refl
status_told Blank Undecided b = refl
status_told Blank Decided b = absurd (omega arith)

-- who said a value, decided or not
said_value : (l : List ℕ) (k p : ℕ) (v : Value) (s : ℕ)
    → some k (is_said l p (value_code v * 2) s) || some k (is_said l p (value_code v * 2 + 1) s) ≡ some k (λ i. says p v s (ballot_at l i))
unfolding says
said_value l k p v s =
    some_or k (is_said l p (value_code v * 2) s) (is_said l p (value_code v * 2 + 1) s)
    ∙ ap (some k) (fun_ext (λ j. both (eqb (ballot_at l j).phase p) (eqb (ballot_at l j).sender s) (eqb (code (ballot_at l j)) (value_code v * 2)) (eqb (code (ballot_at l j)) (value_code v * 2 + 1)) ∙ ap (λ (t : Bool). eqb (ballot_at l j).phase p && (eqb (ballot_at l j).sender s && t)) (two_codes v (ballot_at l j))))
  where
    both : (a b x y : Bool) → (a && (b && x)) || (a && (b && y)) ≡ a && (b && (x || y))
    both true true x y = refl
    both true false x y = refl
    both false b x y = refl

module _ (h : Head) (l : List ℕ) (look : Look) (is : Looks h l look) (end : look.next ≡ ballots l) where
  abbrev saw : (c : ℕ) → ℕ
  saw c = said_in l (ballots l) look.phase c

  none : (j : ℕ) → j < ballots l → refused h l j ≡ false
  none j b = is.1 j (omega (arith, end))

  at_end : look ≡ look_at h l (ballots l)
  at_end = is.2 ∙ ap (look_at h l) end

  -- whom the head hears with a value
  heard_with_lem : (v : Value) (x a b : ℕ) → a ≡ saw (value_code v * 2)
      → ((s : ℕ) → s < 32 → member s b ≡ some (ballots l) (is_said l look.phase (value_code v * 2 + 1) s))
      → set_of 32 (λ s. member s x || (member s a || member s b)) ≡ set_of 32 (λ s. member s x || some (ballots l) (λ i. says look.phase v s (ballot_at l i)))
  heard_with_lem v x a b ea eb =
      set_of_is 32 _ _ (set_of_lt 32 _)
      (λ s m. member_set_of 32 _ s m ∙ ap (λ (t : Bool). member s x || t) (ap₂ (λ (t u : Bool). t || u) (ap (member s) ea ∙ member_set_of 32 _ s m) (eb s m) ∙ said_value l (ballots l) look.phase v s))

  no_blank_decided : (s : ℕ) → some (ballots l) (is_said l look.phase 5 s) ≡ false
  no_blank_decided s =
      some_not (ballots l) (is_said l look.phase 5 s)
      (λ j b. ap (λ (t : Bool). eqb (ballot_at l j).phase look.phase && (eqb (ballot_at l j).sender s && t)) (ne_eqb (code (ballot_at l j)) 5 (λ q. omega (arith, code_low h.n l j (stands_clean h l j (none j b))))) ∙ ap (λ (t : Bool). eqb (ballot_at l j).phase look.phase && t) (and_never (eqb (ballot_at l j).sender s)) ∙ and_never (eqb (ballot_at l j).phase look.phase))

  shown_added : (g : Head) → look.phase ≡ g.phase → shown g look ≡ added g l
  unfolding added heard_with
  shown_added g e =
      let s = sees h l (ballots l) look at_end in
      let z = heard_with_lem Zero g.zeros look.zeros look.zeros_decided (s.3 0 (lit< tt)) (λ t m. ap (member t) (s.3 1 (lit< tt)) ∙ member_set_of 32 _ t m) in
      let o = heard_with_lem One g.ones look.ones look.ones_decided (s.3 2 (lit< tt)) (λ t m. ap (member t) (s.3 3 (lit< tt)) ∙ member_set_of 32 _ t m) in
      let k = heard_with_lem Blank g.blanks look.blanks 0 (s.3 4 (lit< tt)) (λ t m. member_none t ∙ sym (no_blank_decided t)) in
      simp (z, o, k, e)

  abbrev best : Ballot
  best = ballot_at l (leader l)

  -- where the leader is of the look's phase, no lower sender is listed there, and it says one thing
  module _ (fits : Fits h) (leads : Leads l (ballots l) (leader l)) (phase : best.phase ≡ look.phase) where
    low : best.sender < 32
    low = clean_low h l (leader l) fits (none (leader l) leads.within)

    abbrev Listed : ℕ → Type 0
    Listed s = (j : ℕ) × (j < ballots l) × (((ballot_at l j).phase ≡ look.phase) × ((ballot_at l j).sender ≡ s))

    listed : (s : ℕ) → s < 32 → Means (member s look.listed) (Listed s)
    listed s b =
        means_member 32 look.listed s _ (sees h l (ballots l) look at_end).1 b
        (means_some (λ j. means_and (means_eq _ _) (means_eq _ _)))

    lower : (s : ℕ) → s < best.sender → member s look.listed ≡ false
    lower s b =
        not_false (listed s (omega (arith, low)))
        (λ r. false_not (means_ahead _ best) (leads.behind r.0 r.1)
        (inr (r.2.0 ∙ sym phase, omega (arith, r.2.1))))

    lowest : first 32 (λ s. member s look.listed) % 32 ≡ best.sender
    lowest =
        let here = (listed best.sender low).1 (leader l, leads.within, (phase, refl)) in
        omega (arith, low, first_at 32 (λ s. member s look.listed) best.sender lower here low)

    abbrev Said : ℕ → ℕ → Type 0
    Said c j = ((ballot_at l j).phase ≡ look.phase) × (((ballot_at l j).sender ≡ best.sender) × (code (ballot_at l j) ≡ c))

    told : (c : ℕ) → (j : ℕ) × (j < ballots l) × Said c j → code best ≡ c
    told c (j, m, e) =
        one_code h l (ballots l) none (leader l) j leads.within m (phase ∙ sym e.0, sym e.1.0) ∙ e.1.1

    said : (c : ℕ) → ltb c 5 ≡ true → member best.sender (get_or (said_of look) c 0) ≡ eqb (code best) c
    said c b =
        means_same
        (means_as (told c) (λ e. (leader l, leads.within, (phase, (refl, e))))
        (means_member 32 _ best.sender _ ((sees h l (ballots l) look at_end).3 c (ltb-true c 5 b)) low
        (means_some (λ j. means_and (means_eq _ _) (means_and (means_eq _ _) (means_eq _ _))))))
        (means_eq (code best) c)

    few : code best < 5
    few = code_low h.n l (leader l) (stands_clean h l (leader l) (none (leader l) leads.within))

    value_said : value_by look best.sender ≡ best.value
    value_said =
        simp (member_or best.sender look.ones, said 2 refl, said 3 refl, said 4 refl) (value_told best.value best.status few)

    status_said : status_by look best.sender ≡ best.status
    status_said =
        simp (member_or best.sender look.zeros_decided, said 1 refl, said 3 refl) (status_told best.value best.status few)

    foremost_leads : foremost look ≡ best
    foremost_leads = simp (lowest, value_said, status_said, ← phase)

  -- the look's phase is the one that step 2 leaves
  moved_phase : (moved h l).phase ≡ look.phase
  moved_phase = go (moves h l) (sees h l (ballots l) look at_end).0
    where
      go : Moves h l → highest h l (ballots l) ≡ look.phase → (moved h l).phase ≡ look.phase
      go (stays q f) e =
          let most = highest_within h l (ballots l) h.phase (omega arith) f in
          omega (arith, most, highest_least h l (ballots l), ap (λ (k : Head). k.phase) q)
      go (copies i b q u f) e =
          let most = highest_within h l (ballots l) (ballot_at l i).phase (omega arith) f in
          omega (arith, most, highest_most h l (ballots l) i b, ap (λ (k : Head). k.phase) q)

  pub moved_by : Fits h → cond (ltb h.phase look.phase) (copying h (foremost look)) h ≡ moved h l
  unfolding moved
  moved_by fits = go (moves h l)
    where
      go : Moves h l → cond (ltb h.phase look.phase) (copying h (foremost look)) h ≡ moved h l
      go (stays q f) =
          let e : look.phase ≤ h.phase = omega (arith, sym moved_phase ∙ ap (λ (k : Head). k.phase) q) in
          ap (λ (t : Bool). cond t (copying h (foremost look)) h) (le-ltb h.phase look.phase e) ∙ sym q
      go (copies i b q u f) =
          let e : (ballot_at l i).phase ≡ look.phase = sym (ap (λ (k : Head). k.phase) q) ∙ moved_phase in
          let p = leader_leads l (omega arith) in
          let some_above = some_here (ballots l) (above h l) i b (lt-ltb h.phase (ballot_at l i).phase u) in
          ap₂ (λ (t : Bool) (b : Ballot). cond t (copying h b) h)
          (lt-ltb h.phase look.phase (omega arith) ∙ sym some_above)
          (foremost_leads fits p (omega (arith, f (leader l) p.within, leader_highest l i b)))

  pub shown_gathered : (g : Head) → g ≡ moved h l → shown g look ≡ gathered h l
  unfolding gathered
  shown_gathered g e =
      shown_added g (sym moved_phase ∙ sym (ap (λ (k : Head). k.phase) e)) ∙ ap (λ (k : Head). added k l) e

-- ---- no ballots

small : (h : Head) → Sound h → (v : Value) → heard h v < 2 ^ 32
small h a v =
    ltb-true (heard h v) (2 ^ 32) ((means_within 32 (heard h v)).1 (λ s m. omega (arith, a.members v s m, a.heads.1)))

-- a set with the senders of no ballots
none_heard : (x : ℕ) (p : ℕ → ℕ → Bool) → x < 2 ^ 32 → x ≡ set_of 32 (λ s. member s x || some 0 (p s))
none_heard x p small =
    set_of_is 32 x _ small
    (λ s l. sym (or_never (member s x)) ∙ ap (λ (t : Bool). member s x || t) (sym (some_not 0 (p s) (λ j b. absurd (omega arith)))))

pub empty_heard : (h : Head) (l : List ℕ) → Sound h → length l ≡ 0 → h ≡ gathered h l
unfolding gathered moved added heard_with
empty_heard h l a e =
    simp (some_not (ballots l) (above h l) (λ j b. absurd (omega arith)), ← same Zero, ← same One, ← same Blank)
  where
    same : (v : Value)
        → heard h v ≡ set_of 32 (λ s. member s (heard h v) || some (ballots l) (λ i. says h.phase v s (ballot_at l i)))
    same v =
        none_heard (heard h v) (λ s i. says h.phase v s (ballot_at l i)) (small h a v)
        ∙ ap (λ (k : ℕ). set_of 32 (λ s. member s (heard h v) || some k (λ i. says h.phase v s (ballot_at l i)))) (omega arith)
