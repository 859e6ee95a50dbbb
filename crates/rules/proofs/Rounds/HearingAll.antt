-- A head that has heard all heads of the vote, each with the value that it has: whom it holds, how many, and what it
-- finds.
use Prim.Native.Nat.{ℕ, ◌+◌, ◌*◌, ◌^◌, ◌≤◌, ◌<◌}
use mathlib.Core.Path.{◌≡◌, refl, sym, ap, ◌∙◌}
use mathlib.Core.Bool.{Bool, true, ◌&&◌, ◌||◌}
use mathlib.Core.Logic.{inl, inr}
use native.Mathlib.Decide.{dec_lt}
use native.Mathlib.Omega.{arith}
use lib.Dec.{ltb}
use borrow.Author.Tests.{lt-ltb, ltb-true}
use Rattle.rules.specs.declared.Value.{Value}
use Rattle.rules.specs.declared.Value.TheVariants.{Zero, One, Blank}
use Rattle.rules.specs.declared.Status.TheVariants.{Undecided}
use Rattle.rules.specs.declared.Decision.TheVariants.{Unwritten}
use Rattle.rules.specs.declared.Head.{Head}
use Rattle.rules.specs.Below.{count}
use Rattle.rules.specs.Ballot.{value_code, same_value}
use Rattle.rules.specs.Heard.{member, set_of, size, heard}
use Rattle.rules.specs.Head.{any_heard}
use Rattle.rules.specs.Tick.{quorum, majority}
use Rattle.rules.proofs.Counting.Truth.{Means, never, means_as, means_and, means_or, means_lt, and_left}
use Rattle.rules.proofs.Counting.Below.{count_same, count_le}
use Rattle.rules.proofs.Counting.Sets.{member_high, member_set_of, set_of_lt, means_any}
use Rattle.rules.proofs.Meaning.Meanings.{means_value}
use Rattle.rules.proofs.Counting.Counting.{count_within, count_either, count_all, size_set_of}

-- ---- who has a value

-- head t is below n and has the value v
abbrev has : ℕ → (ℕ → Value) → Value → ℕ → Bool
has n value v t = ltb t n && same_value (value t) v

-- the set of those heads
unfoldable pub having : ℕ → (ℕ → Value) → Value → ℕ
having n value v = set_of 32 (has n value v)

-- how many of n heads have the value
abbrev pub holders : ℕ → (ℕ → Value) → Value → ℕ
holders n value v = count n (λ t. same_value (value t) v)

-- its members are below 32
pub having_lt : (n : ℕ) (value : ℕ → Value) (v : Value) → having n value v < 2 ^ 32
unfolding having
having_lt n value v = set_of_lt 32 (has n value v)

module _ (n : ℕ) (value : ℕ → Value) (v : Value) (few : n ≤ 32) where
  -- who is in the set
  pub means_having : (t : ℕ) → Means (member t (having n value v)) ((t < n) × (value t ≡ v))
  unfolding having
  means_having t = go (dec_lt t 32)
    where
      go : Dec (t < 32) → Means (member t (set_of 32 (has n value v))) ((t < n) × (value t ≡ v))
      go (yes b) = rw (member_set_of 32 (has n value v) t b) (means_and means_lt (means_value (value t) v))
      go (no b) = (λ e. never (sym (member_high 32 t (having n value v) (having_lt n value v) (omega arith)) ∙ e), λ r. absurd (omega (arith, r.0)))

  -- as many are in the set as have the value
  pub having_size : size (having n value v) ≡ holders n value v
  unfolding having
  having_size =
      size_set_of (has n value v)
      ∙ count_within 32 (has n value v) few (λ t e. ltb-true t n (and_left (ltb t n) _ e))
      ∙ count_same n (has n value v) _ (λ t b. ap (λ (u : Bool). u && same_value (value t) v) (lt-ltb t n b))

-- no head has two values
apart : (n : ℕ) (value : ℕ → Value) (v w : Value) → (v ≡ w → ⊥) → (t : ℕ) → same_value (value t) v ≡ true → same_value (value t) w ≡ true → ⊥
apart n value v w other t p q = other (sym ((means_value (value t) v).0 p) ∙ (means_value (value t) w).0 q)

pub one_value : (n : ℕ) (value : ℕ → Value) (v w : Value) → (v ≡ w → ⊥) → holders n value v + holders n value w ≤ n
one_value n value v w other =
    omega (arith, count_either n (λ t. same_value (value t) v) (λ t. same_value (value t) w) (apart n value v w other), count_le n (λ t. same_value (value t) v || same_value (value t) w))

-- every head has one of the three
every_value : (n : ℕ) (value : ℕ → Value) → holders n value Zero + holders n value One + holders n value Blank ≡ n
every_value n value =
    omega
    (arith, count_either n (is Zero) (is One) (apart n value Zero One (λ e. omega (arith, ap value_code e))), count_either n (λ t. is Zero t || is One t) (is Blank) never_blank, count_all n (λ t. (is Zero t || is One t) || is Blank t) (λ t l. one (value t)))
  where
    is : Value → ℕ → Bool
    is v t = same_value (value t) v

    one : (v : Value) → (same_value v Zero || same_value v One) || same_value v Blank ≡ true
    one Zero = refl
    one One = refl
    one Blank = refl

    never_blank : (t : ℕ) → is Zero t || is One t ≡ true → is Blank t ≡ true → ⊥
    never_blank t e q =
        elim ((means_or (means_value (value t) Zero) (means_value (value t) One)).0 e) [
          | inl z ↦ omega (arith, ap value_code (sym z ∙ (means_value (value t) Blank).0 q))
          | inr o ↦ omega (arith, ap value_code (sym o ∙ (means_value (value t) Blank).0 q))
        ]

-- ---- the head that has heard all

-- head s of n at a phase, undecided, with nothing written, when it has heard all heads, each with its value
abbrev pub hearing : ℕ → ℕ → (ℕ → Value) → ℕ → Head
hearing n phase value s =
    record {
      n = n;
      own = s;
      phase = phase;
      value = value s;
      status = Undecided;
      decision = Unwritten;
      zeros = having n value Zero;
      ones = having n value One;
      blanks = having n value Blank;
    }

module _ (n phase : ℕ) (value : ℕ → Value) (s : ℕ) (few : n ≤ 32) where
  -- it heard each value from those that have it
  heard_having : (v : Value) → heard (hearing n phase value s) v ≡ having n value v
  heard_having Zero = refl
  heard_having One = refl
  heard_having Blank = refl

  -- that is enough to step
  pub all_heard : 0 < n → quorum (hearing n phase value s) ≡ true
  unfolding quorum
  all_heard some =
      lt-ltb n _
      (omega (arith, every_value n value, having_size n value Zero few, having_size n value One few, having_size n value Blank few))

  -- a value was heard from over half where over half have it
  pub majority_is : (v : Value) → majority (hearing n phase value s) v ≡ ltb n (holders n value v * 2)
  unfolding majority
  majority_is v = ap (λ (k : ℕ). ltb n (k * 2)) (ap size (heard_having v) ∙ having_size n value v few)

  -- a value was heard at all where some head has it
  pub means_heard_at_all : (v : Value) → Means (any_heard (hearing n phase value s) v) ((t : ℕ) × (t < n) × (value t ≡ v))
  means_heard_at_all v =
      rw (heard_having v)
      (means_as
      (λ r. let x = (means_having n value v few r.0).0 r.1 in (r.0, x.0, x.1))
      (λ r. (r.0, (means_having n value v few r.0).1 (r.1, r.2)))
      (means_any (having n value v)))
