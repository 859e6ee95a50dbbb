-- What the firmware holds: an entry from C does on a head's record what the engine does on the head, accepted or
-- refused; so n records, started and ticked, are at every point those of the run.
use Prim.Native.Nat.{ℕ, ◌<◌}
use mathlib.Core.Path.{◌≡◌, refl, ap, ◌∙◌}
use mathlib.Core.List.{List, [], ◌∷◌}
use mathlib.Core.Bool.{Bool, true, false, cond}
use lib.ListN.{length}
use lib.Dec.{eqb}
use borrow.Author.Tests.{eq-eqb}
use Rattle.rules.specs.declared.Head.{Head}
use Rattle.rules.specs.Tick.{gathered, stepped, settled, tick_number, tick_of}
use Rattle.rules.specs.Record.{record_of, start_number_from_c, record_after_start, tick_number_from_c, record_after_tick}
use Rattle.rules.specs.Run.{Vote, Proper, Event, head_in, record_in}
use Rattle.rules.proofs.Meaning.Answers.{starts_number}
use Rattle.rules.proofs.Layouts.Records.{record_holds, record_is_record}
use Rattle.rules.proofs.Layouts.FromC.{tick_number_from_c_lem}
use Rattle.rules.proofs.OneTick.Starts.{start_taken}

pub tick_number_on_a_record : (h : Head) (l : List ℕ) (coin : ℕ) → tick_number_from_c (record_of h) l coin ≡ tick_number h l coin
tick_number_on_a_record h l coin = tick_number_from_c_lem (record_of h) l coin ∙ rw (record_is_record h, record_holds h)

pub tick_on_a_record : (h : Head) (l : List ℕ) (coin : ℕ) → record_after_tick (record_of h) l coin ≡ record_of (tick_of h l coin).head
unfolding record_after_tick tick_of
tick_on_a_record h l coin = rw (tick_number_on_a_record h l coin, record_holds h) (go (eqb (tick_number h l coin) 0))
  where
    after : Bool → Head
    after t = cond t (settled (stepped (gathered h l) coin)) h

    go : (t : Bool) → cond t (record_of (after t)) (record_of h) ≡ record_of (after t)
    go true = refl
    go false = refl

module _ (vote : Vote) (proper : Proper vote) (lent : ℕ → List ℕ) (twenty : (s : ℕ) → s < vote.n → length (lent s) ≡ 20) where
  pub records_hold_the_heads : (events : List Event) (s : ℕ) → s < vote.n → record_in vote lent events s ≡ record_of (head_in vote events s)
  unfolding record_after_start
  records_hold_the_heads [] s h = rw taken
    where
      taken : start_number_from_c (lent s) vote.n s (vote.proposal s) ≡ 0
      taken =
          starts_number (lent s) vote.n s (vote.proposal s)
          ∙ rw (start_taken vote proper s h, eq-eqb (length (lent s)) 20 (twenty s h))
  records_hold_the_heads (e ∷ events) s h = go (eqb e.head s) (records_hold_the_heads events s h)
    where
      before : Head
      before = head_in vote events s

      go : (t : Bool) → record_in vote lent events s ≡ record_of (head_in vote events s)
          → cond t (record_after_tick (record_in vote lent events s) e.bytes e.coin) (record_in vote lent events s)
          ≡ record_of (cond t (tick_of (head_in vote events s) e.bytes e.coin).head (head_in vote events s))
      go true i =
          ap (λ (r : List ℕ). record_after_tick r e.bytes e.coin) i ∙ tick_on_a_record (head_in vote events s) e.bytes e.coin
      go false i = i
