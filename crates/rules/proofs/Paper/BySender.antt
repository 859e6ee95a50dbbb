-- The three sets give what the whole set gives, counted by sender: step 3 does what lines 14 to 32 do.
use Prim.Native.Nat.{ℕ, ◌+◌, ◌%◌, ◌≤◌, ◌<◌}
use mathlib.Core.Path.{◌≡◌, refl, sym, ap, ap₂, fun_ext, ◌∙◌}
use mathlib.Core.List.{List}
use mathlib.Core.Bool.{Bool, true, false, cond, ◌&&◌, ◌||◌}
use mathlib.Core.Logic.{◌⊎◌, inl, inr, ◌↔◌}
use native.Mathlib.Decide.{ℕ_discrete}
use native.Mathlib.Omega.{arith}
use lib.Dec.{leb, eqb, lit<}
use Rattle.rules.specs.declared.Value.{Value}
use Rattle.rules.specs.declared.Value.TheVariants.{Zero, One, Blank}
use Rattle.rules.specs.declared.Status.TheVariants.{Decided}
use Rattle.rules.specs.declared.Ballot.{Ballot}
use Rattle.rules.specs.declared.Head.{Head}
use Rattle.rules.specs.Below.{count}
use Rattle.rules.specs.Ballot.{value_code, value_of, same_value}
use Rattle.rules.specs.Heard.{member, size, over_half, heard}
use Rattle.rules.specs.Head.{any_heard}
use Rattle.rules.specs.Tick.{quorum, majority, step_value, step_status, stepped}
use Rattle.rules.specs.Choice.{bit_with}
use Rattle.rules.specs.Given.{Hears, Says}
use Rattle.rules.specs.Algorithm.{Process, process_with, some_in, senders, at_phase_with, lines14to32, lines16to20, lines22to24, lines25to29}
use Rattle.rules.proofs.Counting.Truth.{Means, means_self, means_as, means_and, means_or, means_eq, means_same}
use Rattle.rules.proofs.Counting.Below.{count_same}
use Rattle.rules.proofs.Counting.Counting.{count_within, count_either, means_count}
use Rattle.rules.proofs.Counting.Sets.{means_any}
use Rattle.rules.proofs.Meaning.Meanings.{means_value}
use Rattle.rules.proofs.Paper.HeardSoFar.{Among, means_among}

-- the process that has what the head has, and has heard all these ballots
abbrev pub shown : Head → List Ballot → Process
shown h all = process_with h.n h.own h.phase h.value h.status h.decision all

-- the head's sets are as a sound head's, and hold the senders of the ballots of its phase among all these
pub record BySender (h : Head) (all : List Ballot) : Type 0 where
  pub few : h.n ≤ 32
  pub members : (v : Value) (s : ℕ) → Hears h v s → s < h.n
  pub disjoint : (v w : Value) (s : ℕ) → Hears h v s → Hears h w s → v ≡ w
  pub senders : (v : Value) (s : ℕ) → Hears h v s ↔ Among all (Says h.phase v s)

module _ (h : Head) (all : List Ballot) (sets : BySender h all) where
  -- the size of the set of v is Algorithm 1's count of the senders of the phase with v
  size_is : (v : Value) → size (heard h v) ≡ at_phase_with (shown h all) v
  unfolding size
  size_is v = count_within 32 _ sets.few (sets.members v) ∙ count_same h.n _ _ (λ s l. means_same (means_as (sets.senders v s).0 (sets.senders v s).1 (means_self _)) (test s))
    where
      test : (s : ℕ) → Means (some_in all (λ b. eqb b.sender s && (eqb b.phase h.phase && same_value b.value v))) (Among all (Says h.phase v s))
      test s =
          means_among
          (λ b.
          means_as (λ r. (r.1.0, r.0, r.1.1)) (λ r. (r.1, (r.0, r.2)))
          (means_and (means_eq b.sender s) (means_and (means_eq b.phase h.phase) (means_value b.value v))))

  -- the three sizes together are its count of the senders of the phase
  sizes_are : size h.zeros + size h.ones + size h.blanks ≡ senders (shown h all) (λ b. eqb b.phase h.phase)
  unfolding size
  sizes_are =
      ap (λ (k : ℕ). k + count 32 (hears Blank)) (sym (count_either 32 (hears Zero) (hears One) (apart Zero One (lit< tt))))
      ∙ sym (count_either 32 (λ s. hears Zero s || hears One s) (hears Blank) (λ s p. apart_blank s ((means_either s).0 p)))
      ∙ count_within 32 _ sets.few (λ s e. let r = (means_any_value s).0 e in sets.members r.0 s r.1)
      ∙ count_same h.n _ _ (λ s l. means_same (means_any_value s) (test s))
    where
      hears : Value → ℕ → Bool
      hears v s = member s (heard h v)

      apart : (v w : Value) → value_code v < value_code w → (s : ℕ) → Hears h v s → Hears h w s → ⊥
      apart v w l s p q = omega (arith, ap value_code (sets.disjoint v w s p q))

      means_either : (s : ℕ) → Means (hears Zero s || hears One s) (Hears h Zero s ⊎ Hears h One s)
      means_either s = means_or (means_self _) (means_self _)

      apart_blank : (s : ℕ) → Hears h Zero s ⊎ Hears h One s → Hears h Blank s → ⊥
      apart_blank s (inl m) = apart Zero Blank (lit< tt) s m
      apart_blank s (inr m) = apart One Blank (lit< tt) s m

      -- s is heard
      Heard : ℕ → Type 0
      Heard s = (v : Value) × Hears h v s

      means_any_value : (s : ℕ) → Means ((hears Zero s || hears One s) || hears Blank s) (Heard s)
      means_any_value s = means_as there (λ r. back r.0 r.1) (means_or (means_either s) (means_self _))
        where
          there : (Hears h Zero s ⊎ Hears h One s) ⊎ Hears h Blank s → Heard s
          there (inl (inl m)) = (Zero, m)
          there (inl (inr m)) = (One, m)
          there (inr m) = (Blank, m)

          back : (v : Value) → Hears h v s → (Hears h Zero s ⊎ Hears h One s) ⊎ Hears h Blank s
          back Zero m = inl (inl m)
          back One m = inl (inr m)
          back Blank m = inr m

      test : (s : ℕ) → Means (some_in all (λ b. eqb b.sender s && eqb b.phase h.phase)) (Heard s)
      test s =
          means_as
          (λ r. (r.0.value, (sets.senders r.0.value s).1 (r.0, r.1, (r.2.1, r.2.0, refl))))
          (λ x. let r = (sets.senders x.0 s).0 x.1 in (r.0, r.1, (r.2.1, r.2.0)))
          (means_among (λ b. means_and (means_eq b.sender s) (means_eq b.phase h.phase)))

  -- so line 14 tests what step 3 tests
  quorum_is : quorum h ≡ over_half h.n (senders (shown h all) (λ b. eqb b.phase h.phase))
  unfolding quorum
  quorum_is = ap (over_half h.n) sizes_are

  -- lines 16 and 22
  pub majority_is : (v : Value) → majority h v ≡ over_half h.n (at_phase_with (shown h all) v)
  unfolding majority
  majority_is v = ap (over_half h.n) (size_is v)

  -- and line 25
  pub any_is : (v : Value) → any_heard h v ≡ leb 1 (at_phase_with (shown h all) v)
  unfolding size
  any_is v =
      means_same (means_any (heard h v))
      (means_as (λ r. (r.0, r.2)) (λ r. (r.0, omega (arith, sets.few, sets.members v r.0 r.1), r.1)) (means_count 32 (λ s. member s (heard h v))))
      ∙ ap (leb 1) (size_is v)

  -- "if a value was heard from more than n/2 heads, take it, else blank"
  take_majority : lines16to20 (shown h all) ≡ bit_with (majority h) Blank
  unfolding lines16to20
  take_majority = ap (λ (p : Value → Bool). bit_with p Blank) (fun_ext (λ v. sym (majority_is v)))

  -- "if a value 0 or 1 was heard from more than n/2 heads, become decided"
  become_decided : lines22to24 (shown h all) ≡ cond (majority h Zero || majority h One) Decided h.status
  unfolding lines22to24
  become_decided = ap₂ (λ (s t : Bool). cond (s || t) Decided h.status) (sym (majority_is Zero)) (sym (majority_is One))

  -- "then take the value 0 or 1 that was heard at all, else the coin"
  take_heard : (coin : ℕ) → lines25to29 (shown h all) coin ≡ bit_with (any_heard h) (value_of coin)
  unfolding lines25to29
  take_heard coin = ap (λ (p : Value → Bool). bit_with p (value_of coin)) (fun_ext (λ v. sym (any_is v)))

  -- step 3 does what lines 14 to 32 do
  pub stepped_is : (coin : ℕ) → lines14to32 (shown h all) coin ≡ shown (stepped h coin) all
  unfolding lines14to32 stepped step_value step_status
  stepped_is coin = go (quorum h) refl (ℕ_discrete (h.phase % 2) 1)
    where
      go : (q : Bool) → quorum h ≡ q → Dec (h.phase % 2 ≡ 1) → lines14to32 (shown h all) coin ≡ shown (stepped h coin) all
      go false e d = rw (← quorum_is, e)
      go true e (yes o) = rw (← quorum_is, e, o, take_majority)
      go true e (no o) = let z : h.phase % 2 ≡ 0 = omega arith in rw (← quorum_is, e, z, become_decided, take_heard)
