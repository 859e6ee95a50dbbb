-- Laws of the set of all ballots heard so far: what is in it, and the ballot that lines 9 to 13 end at.
use Prim.Native.Nat.{ℕ, zero, suc, ◌<◌}
use mathlib.Core.Path.{◌≡◌, refl, sym, ap, subst}
use mathlib.Core.List.Memᴰ
use mathlib.Core.List.{List, [], ◌∷◌, ◌++◌, Memᴰ}
use mathlib.Core.Bool.{Bool, true, false, cond, not}
use mathlib.Core.Logic.{◌⊎◌, inl, inr, ◌↔◌}
use native.Mathlib.Decide.{dec_lt}
use native.Mathlib.Omega.{arith}
use Rattle.rules.specs.declared.Ballot.{Ballot}
use Rattle.rules.specs.Ballot.{ballot_at}
use Rattle.rules.specs.Tick.{ballots}
use Rattle.rules.specs.Choice.{ahead}
use Rattle.rules.specs.Given.{SomeBallot, Differ}
use Rattle.rules.specs.Algorithm.{some_in, foremost}
use Rattle.rules.specs.History.{ballots_up_to, ballots_in, Handed}
use Rattle.rules.proofs.Counting.Truth.{Means, never, means_as, means_or, false_not, not_not}
use Rattle.rules.proofs.Meaning.Meanings.{means_value, means_status}
use Rattle.rules.proofs.OneTick.Leader.{Ahead, means_ahead}

-- some ballot of the set of which P holds
abbrev pub Among : List Ballot → (Ballot → Type 0) → Type 0
Among all P = (b : Ballot) × Memᴰ b all × P b

-- the test for some message of the set means that there is one
pub means_among : {all : List Ballot} {p : Ballot → Bool} {P : Ballot → Type 0} → ((b : Ballot) → Means (p b) (P b)) → Means (some_in all p) (Among all P)
means_among {all = []} m = (λ e. never e, λ r. absurd (Memᴰ.not-nil r.1))
means_among {all = b ∷ all} {p} {P} m = means_as there (λ r. back r (Memᴰ.cases_cons r.1)) (means_or (m b) (means_among m))
  where
    there : P b ⊎ Among all P → Among (b ∷ all) P
    there (inl x) = (b, Memᴰ.head refl, x)
    there (inr r) = (r.0, Memᴰ.tail r.1, r.2)

    back : (r : Among (b ∷ all) P) → (r.0 ≡ b) ⊎ Memᴰ r.0 all → P b ⊎ Among all P
    back r (inl e) = inl (subst P e r.2)
    back r (inr m) = inr (r.0, m, r.2)

-- ---- new ballots in front of old ones

-- a ballot of the first k of a list stands at an index below k
up_to : (k : ℕ) (l : List ℕ) {b : Ballot} → Memᴰ b (ballots_up_to k l) → (i : ℕ) × (i < k) × (b ≡ ballot_at l i)
up_to zero l m = absurd (Memᴰ.not-nil m)
up_to (suc k) l {b} m = go (Memᴰ.cases_cons m) (up_to k l)
  where
    go : (b ≡ ballot_at l k) ⊎ Memᴰ b (ballots_up_to k l) → (Memᴰ b (ballots_up_to k l) → (i : ℕ) × (i < k) × (b ≡ ballot_at l i)) → (i : ℕ) × (i < suc k) × (b ≡ ballot_at l i)
    go (inl e) below = (k, omega arith, e)
    go (inr m) below = let r = below m in (r.0, omega (arith, r.1), r.2)

-- and the ballot at an index below k is one of the first k
listed : (k : ℕ) (l : List ℕ) (i : ℕ) → i < k → Memᴰ (ballot_at l i) (ballots_up_to k l)
listed zero l i h = absurd (omega arith)
listed (suc k) l i h = go (dec_lt i k) (listed k l i)
  where
    go : Dec (i < k) → (i < k → Memᴰ (ballot_at l i) (ballots_up_to k l)) → Memᴰ (ballot_at l i) (ballots_up_to (suc k) l)
    go (yes b) below = Memᴰ.tail (below b)
    go (no b) below = let e : i ≡ k = omega arith in Memᴰ.head (ap (ballot_at l) e)

-- a ballot of all is one of the list or an old one
pub new_or_old : (l : List ℕ) {old : List Ballot} {b : Ballot} → Memᴰ b (ballots_in l ++ old) → SomeBallot l (λ i. b ≡ ballot_at l i) ⊎ Memᴰ b old
new_or_old l m = elim (Memᴰ.append_cases (ballots_in l) m) [ inl x ↦ inl (up_to (ballots l) l x) | inr x ↦ inr x ]

-- the ballot at an index of the list is one of all
pub new : (l : List ℕ) (old : List Ballot) (i : ℕ) → i < ballots l → Memᴰ (ballot_at l i) (ballots_in l ++ old)
new l old i h = Memᴰ.append_left old (listed (ballots l) l i h)

-- what some ballot of all has, some ballot of the list or some old one has
pub among_all : (l : List ℕ) (old : List Ballot) (P : Ballot → Type 0) → Among (ballots_in l ++ old) P ↔ (SomeBallot l (λ i. P (ballot_at l i)) ⊎ Among old P)
among_all l old P = (λ r. there r (new_or_old l r.1), back)
  where
    there : (r : Among (ballots_in l ++ old) P) → SomeBallot l (λ i. r.0 ≡ ballot_at l i) ⊎ Memᴰ r.0 old → SomeBallot l (λ i. P (ballot_at l i)) ⊎ Among old P
    there r (inl x) = inl (x.0, x.1, subst P x.2 r.2)
    there r (inr m) = inr (r.0, m, r.2)

    back : SomeBallot l (λ i. P (ballot_at l i)) ⊎ Among old P → Among (ballots_in l ++ old) P
    back (inl x) = (ballot_at l x.0, new l old x.0 x.1, x.2)
    back (inr r) = (r.0, Memᴰ.append_right (ballots_in l) r.1, r.2)

-- what no old ballot has, some ballot of all has exactly where some ballot of the list has it
pub among_new : (l : List ℕ) (old : List Ballot) (P : Ballot → Type 0) → ((b : Ballot) → Memᴰ b old → P b → ⊥) → Among (ballots_in l ++ old) P ↔ SomeBallot l (λ i. P (ballot_at l i))
among_new l old P none = (
  λ r. elim ((among_all l old P).0 r) [ inl x ↦ x | inr x ↦ absurd (none x.0 x.1 x.2) ],
  λ x. (among_all l old P).1 (inl x),
)

-- ---- the foremost

-- none of all is ahead of b
abbrev pub NoneAhead : List Ballot → Ballot → Type 0
NoneAhead all b = Among all (λ c. Ahead c b) → ⊥

-- where b is the only one that none is ahead of, it is the foremost
pub foremost_is : {all rest : List Ballot} {b : Ballot} → NoneAhead all b → ((c : Ballot) → Memᴰ c rest → NoneAhead all c → c ≡ b) → Memᴰ b rest → foremost all rest ≡ b
foremost_is {rest = []} none only m = absurd (Memᴰ.not-nil m)
foremost_is {all} {rest = c ∷ rest} {b} none only m =
    go (some_in all (λ d. ahead d c)) (means_among (λ d. means_ahead d c)) (Memᴰ.cases_cons m) (foremost_is none (λ d k. only d (Memᴰ.tail k)))
  where
    go : (t : Bool) → Means t (Among all (λ d. Ahead d c)) → (b ≡ c) ⊎ Memᴰ b rest → (Memᴰ b rest → foremost all rest ≡ b) → cond (not t) c (foremost all rest) ≡ b
    go false e k later = only c (Memᴰ.head refl) (false_not e refl)
    go true e (inl same) later = absurd (none (subst (λ (x : Ballot). Among all (λ d. Ahead d x)) (sym same) (e.0 refl)))
    go true e (inr k) later = later k

-- two ballots, neither ahead of the other, that do not differ are the same
pub same_ballot : (a b : Ballot) → (Ahead a b → ⊥) → (Ahead b a → ⊥) → (Differ a b → ⊥) → a ≡ b
same_ballot a b m n same = λ i. record { sender = sender i; value = value i; status = status i; phase = phase i }
  where
    neither : {x y : ℕ} → (x < y → ⊥) → (y < x → ⊥) → x ≡ y
    neither f g = omega (arith, f, g)

    phase : a.phase ≡ b.phase
    phase = neither (λ x. n (inl x)) (λ x. m (inl x))

    sender : a.sender ≡ b.sender
    sender = neither (λ x. m (inr (phase, x))) (λ x. n (inr (sym phase, x)))

    value : a.value ≡ b.value
    value = not_not (means_value a.value b.value) (λ f. same (sender, phase, inl f))

    status : a.status ≡ b.status
    status = not_not (means_status a.status b.status) (λ f. same (sender, phase, inr f))

-- all ballots of the ticks, the last tick's first
abbrev pub heard_in : List Handed → List Ballot
heard_in [] = []
heard_in (t ∷ ticks) = ballots_in t.bytes ++ heard_in ticks
