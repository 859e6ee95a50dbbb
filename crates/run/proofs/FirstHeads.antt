-- The bench works on the first heads of a table: it does with them alone what document 01 does in the table, and those
-- behind them stay as they are.
use Prim.Native.Nat.{ℕ, zero, suc, ◌+◌, ◌-◌, ◌*◌, ◌≤◌, ◌<◌}
use mathlib.Core.Path.{◌≡◌, refl, sym, ap, ap₂, ◌∙◌, fun_ext}
use mathlib.Core.List.{List, [], ◌∷◌, ◌++◌, map, append-nil}
use mathlib.Core.Bool.{Bool, cond}
use native.Mathlib.Numerals.{add-one}
use native.Mathlib.Decide.{ℕ_discrete}
use native.Mathlib.Omega.{arith}
use lib.ListN.{length, get_or, set, take, drop}
use lib.Dec.{ltb}
use Rattle.std.specs.List.{sum_by, count_by}
use Rattle.std.proofs.lemmas.List.{take_more, get_or-map, get_or_append_left, get_or-append_right, set-append_left, length-append}
use Rattle.std.proofs.lemmas.List.{take_all, length-map, length-take-le, take-append-drop}
use Rattle.std.proofs.lemmas.List.Sums.{sum_by-append}
use Rattle.rules.proofs.Counting.Below.{count_le}
use Rattle.rules.specs.declared.Decision.{Decision}
use Rattle.rules.specs.declared.Decision.TheVariants.{Zero, One, Unwritten}
use Rattle.rules.specs.declared.Head.{Head}
use Rattle.rules.specs.Below.{count}
use Rattle.rules.specs.Ballot.{bytes_of}
use Rattle.rules.specs.Heard.{member}
use Rattle.rules.specs.Head.{zero_head, start_of, ballot_of, decision_code, is_written}
use Rattle.rules.specs.Record.{four_bytes_at}
use Rattle.rules.specs.Round.{received}
use Rattle.rules.specs.Tick.{tick_of}
use Rattle.file.specs.Plan.{Plan, plan_of}
use Rattle.file.specs.Table.{head_of, placed, rows_in, coins_in, ticked_in, round_in, rounds_in, start_in, starts_in}
use Rattle.file.specs.Table.{table_after}
use Rattle.file.specs.Figures.{decided_in, outcome_of}
use Rattle.file.proofs.Running.Placing.{placed_length, placed_rest, rounds_length}
use Rattle.run.specs.Figures.{outcome_in, one_if_written}
use Rattle.run.specs.Received.{received_from}
use Rattle.run.proofs.Parts.{byte_of_part}
use Rattle.run.proofs.Planned.{planned_fits}

-- ---- the first heads

-- the first k heads of a table
abbrev pub heads_to : ℕ → List Head → List Head
heads_to zero table = []
heads_to (suc k) table = heads_to k table ++ head_of table k ∷ []

heads_to_length : (k : ℕ) (table : List Head) → length (heads_to k table) ≡ k
heads_to_length zero table = refl
heads_to_length (suc k) table =
    length-append (heads_to k table) (head_of table k ∷ []) ∙ omega (arith, heads_to_length k table)

-- each of them is at its number
heads_to_at : (k : ℕ) (table : List Head) (s : ℕ) → s < k → head_of (heads_to k table) s ≡ head_of table s
heads_to_at zero table s h = absurd (omega arith)
heads_to_at (suc k) table s h = go (ℕ_discrete s k) (heads_to_at k table s)
  where
    long : length (heads_to k table) ≡ k
    long = heads_to_length k table

    end : List Head
    end = head_of table k ∷ []

    go : Dec (s ≡ k) → (s < k → head_of (heads_to k table) s ≡ head_of table s)
        → head_of (heads_to k table ++ end) s ≡ head_of table s
    go (yes e) f =
        let first : s - k ≡ 0 = omega (arith, e) in
        get_or-append_right (heads_to k table) end k s zero_head long (omega (arith, e))
        ∙ ap (λ (i : ℕ). get_or end i zero_head) first ∙ ap (head_of table) (sym e)
    go (no e) f =
        get_or_append_left (heads_to k table) end zero_head s (omega (arith, e, long))
        ∙ f (omega (arith, e))

heads_to_are : (heads rest : List Head) (n : ℕ) → n ≤ length heads → heads_to n (heads ++ rest) ≡ take n heads
heads_to_are heads rest zero h = refl
heads_to_are heads rest (suc k) h =
    ap₂ (λ (l : List Head) (x : Head). l ++ x ∷ []) (heads_to_are heads rest k (omega arith)) (get_or_append_left heads rest zero_head k h)
    ∙ sym (ap (λ (n : ℕ). take n heads) (sym (add-one k)) ∙ take_more heads k zero_head h)

-- all of them
heads_to_all : (heads : List Head) → heads_to (length heads) heads ≡ heads
heads_to_all heads =
    ap (heads_to (length heads)) (sym (append-nil heads))
    ∙ heads_to_are heads [] (length heads) (omega arith)
    ∙ take_all (length heads) heads (omega arith)

-- ---- what a head receives

-- a head's ballot
abbrev sent_by : Head → List ℕ
sent_by head = bytes_of (ballot_of head)

-- from the ballots of some heads it receives what it receives from those heads
received_is : (heads : List Head) (lost k : ℕ) → k ≤ length heads
    → received_from (map sent_by heads) lost k ≡ received (head_of heads) (λ s. member s lost) k
received_is heads lost zero h = refl
received_is heads lost (suc k) h =
    ap₂ (λ (list ballot : List ℕ). list ++ cond (member k lost) [] ballot)
    (received_is heads lost k (omega arith)) (get_or-map sent_by heads k zero_head [] h)

same_received : (heads other : ℕ → Head) (lost : ℕ → Bool) (k : ℕ) → ((s : ℕ) → s < k → heads s ≡ other s)
    → received heads lost k ≡ received other lost k
same_received heads other lost zero same = refl
same_received heads other lost (suc k) same =
    ap₂ (λ (list : List ℕ) (head : Head). list ++ cond (lost k) [] (sent_by head))
    (same_received heads other lost k (λ s h. same s (omega arith))) (same k (omega arith))

-- so from the ballots of a table's first heads it receives what it receives from the table's
received_first : (n : ℕ) (table : List Head) (lost k : ℕ) → k ≤ n
    → received_from (map sent_by (heads_to n table)) lost k ≡ received (head_of table) (λ s. member s lost) k
received_first n table lost k h =
    received_is (heads_to n table) lost k (omega (arith, heads_to_length n table))
    ∙ same_received (head_of (heads_to n table)) (head_of table) (λ s. member s lost) k
    (λ s l. heads_to_at n table s (omega arith))

-- ---- placing heads

same_placed : (k : ℕ) (f g : ℕ → Head) (table : List Head) → ((s : ℕ) → s < k → f s ≡ g s)
    → placed k f table ≡ placed k g table
unfolding placed
same_placed zero f g table same = refl
same_placed (suc k) f g table same =
    ap₂ (λ (t : List Head) (head : Head). set t k head)
    (same_placed k f g table (λ s h. same s (omega arith))) (same k (omega arith))

placed-append : (k : ℕ) (f : ℕ → Head) (heads rest : List Head) → k ≤ length heads
    → placed k f (heads ++ rest) ≡ placed k f heads ++ rest
unfolding placed
placed-append zero f heads rest h = refl
placed-append (suc k) f heads rest h =
    ap (λ (t : List Head). set t k (f k)) (placed-append k f heads rest (omega arith))
    ∙ set-append_left (placed k f heads) rest k (f k) (omega (arith, placed_length k f heads))

-- head i of a table as the code ticks it: with what it receives of the senders' ballots
abbrev pub ticked_from : ℕ → List ℕ → List ℕ → List Head → List Head → ℕ → Head
ticked_from n rows coins senders table i =
    (tick_of (head_of table i) (received_from (map sent_by senders) (four_bytes_at rows (i * 4)) n) (get_or coins i 0)).head

-- a round of the code is a round of document 01
pub round_is : (n : ℕ) (rows coins : List ℕ) (table : List Head)
    → placed n (ticked_from n rows coins (heads_to n table) table) table
    ≡ round_in n rows coins table
unfolding round_in
round_is n rows coins table =
    same_placed n _ (ticked_in n rows coins table) table
    (λ s h. ap (λ (list : List ℕ). (tick_of (head_of table s) list (get_or coins s 0)).head)
    (received_first n table (four_bytes_at rows (s * 4)) n (omega arith)))

-- one more head ticked
pub one_ticked : (heads so_far : List Head) (sent : List (List ℕ)) (rows coins : List ℕ) (lost coin i : ℕ)
    (after : Head)
    → so_far ≡ placed i (ticked_from (length heads) rows coins heads heads) heads
    → sent ≡ map (λ head. bytes_of (ballot_of head)) heads
    → lost ≡ four_bytes_at rows (i * 4) → coin ≡ get_or coins i 0
    → after ≡ (tick_of (head_of so_far i) (received_from sent lost (length sent)) coin).head
    → set so_far i after ≡ placed (i + 1) (ticked_from (length heads) rows coins heads heads) heads
unfolding placed
one_ticked heads so_far sent rows coins lost coin i after before is_sent is_lost is_coin is =
    let here : head_of (placed i (ticked_from (length heads) rows coins heads heads) heads) i ≡ head_of heads i =
    placed_rest i _ heads i (omega arith) in
    rw (add-one i, is, before, here, is_lost, is_coin, is_sent, length-map) refl

-- and all of them
pub all_ticked : (rows coins : List ℕ) (heads : List Head) (k : ℕ) → k ≡ length heads
    → placed k (ticked_from (length heads) rows coins heads heads) heads ≡ round_in (length heads) rows coins heads
all_ticked rows coins heads k all =
    let n = length heads in
    rw all
    (ap (λ (senders : List Head). placed n (ticked_from n rows coins senders heads) heads) (sym (heads_to_all heads))
    ∙ round_is n rows coins heads)

-- ---- the bench

round-append : (n : ℕ) (rows coins : List ℕ) (heads rest : List Head) → n ≤ length heads
    → round_in n rows coins (heads ++ rest) ≡ round_in n rows coins heads ++ rest
unfolding round_in
round-append n rows coins heads rest h =
    same_placed n _ _ (heads ++ rest) same ∙ placed-append n (ticked_in n rows coins heads) heads rest h
  where
    there : (s : ℕ) → s < n → head_of (heads ++ rest) s ≡ head_of heads s
    there s l = get_or_append_left heads rest zero_head s (omega arith)

    same : (s : ℕ) → s < n → ticked_in n rows coins (heads ++ rest) s ≡ ticked_in n rows coins heads s
    same s l =
        ap₂ (λ (head : Head) (list : List ℕ). (tick_of head list (get_or coins s 0)).head) (there s l)
        (same_received (head_of (heads ++ rest)) (head_of heads) (λ k. member k (four_bytes_at rows (s * 4))) n there)

rounds-append : (file : List ℕ) (plan : Plan) (r : ℕ) (heads rest : List Head) → plan.n ≤ length heads
    → rounds_in file plan r (heads ++ rest) ≡ rounds_in file plan r heads ++ rest
unfolding rounds_in
rounds-append file plan zero heads rest h = refl
rounds-append file plan (suc r) heads rest h =
    ap (round_in plan.n (rows_in file plan r) (coins_in file plan r)) (rounds-append file plan r heads rest h)
    ∙ round-append plan.n (rows_in file plan r) (coins_in file plan r) (rounds_in file plan r heads) rest
    (omega (arith, rounds_length file plan r heads))

-- ---- the written decisions

-- what a head adds
abbrev pub added : Head → ℕ
added head = one_if_written head.decision

pub decision_counts : (h : Head) → one_if_written h.decision ≡ cond (is_written h) 1 0
decision_counts h = go h.decision
  where
    go : (d : Decision) → one_if_written d ≡ cond (ltb (decision_code d) 2) 1 0
    go Zero = refl
    go One = refl
    go Unwritten = refl

pub survey_counts : (n : ℕ) (table : List Head) → sum_by added (heads_to n table) ≡ decided_in table n
unfolding count
survey_counts zero table = refl
survey_counts (suc k) table =
    sum_by-append added (heads_to k table) (head_of table k ∷ [])
    ∙ ap₂ (λ (a b : ℕ). a + b) (survey_counts k table) (omega (arith, decision_counts (head_of table k)))

pub survey_decided : (k : ℕ) (table : List Head) → sum_by added (heads_to k table) ≤ k
survey_decided k table = omega (arith, survey_counts k table, count_le k (λ s. is_written (head_of table s)))

decided_is : (heads rest : List Head) (n : ℕ) → n ≤ length heads
    → decided_in (heads ++ rest) n ≡ sum_by added (take n heads)
decided_is heads rest n h =
    sym (survey_counts n (heads ++ rest)) ∙ ap (sum_by added) (heads_to_are heads rest n h)

-- so what the heads add is how many of them have a written decision
pub added_counts : (heads : List Head) → sum_by added heads ≡ count_by is_written heads
added_counts heads =
    ap (λ (test : Head → ℕ). sum_by test heads) (fun_ext decision_counts)

-- the heads are as many as the plan says
pub heads_are : (file : List ℕ) (table : List Head) (plan : Plan) → plan ≡ plan_of file (length table)
    → length (take plan.n table) ≡ plan.n
heads_are file table plan is = length-take-le plan.n table (rw is (planned_fits file (length table)).among_room)

-- what the bench wants of its plan
pub ruleset plans = (planned_fits, heads_are)

-- the bench: the first heads of the table, as they start and after all rounds
module _ (file : List ℕ) (table begun last : List Head) (proposals : List ℕ) (plan : Plan) (r : ℕ)
    (is : plan ≡ plan_of file (length table)) (are : proposals ≡ take plan.n (drop 2 file))
    (starts : begun ≡ placed (length (take plan.n table))
    (λ i. (start_of (length (take plan.n table)) i (get_or proposals i 0)).head) (take plan.n table))
    (rounds : last ≡ rounds_in file plan r begun) (ends : r ≡ plan.rounds) where
  abbrev heads : List Head
  heads = take plan.n table

  abbrev rest : List Head
  rest = drop plan.n table

  many : length heads ≡ plan.n
  many = heads_are file table plan is

  started : begun ≡ starts_in file plan.n heads
  unfolding placed
  started =
      starts ∙ ap (λ (n : ℕ). placed n (λ i. (start_of n i (get_or proposals i 0)).head) heads) many
      ∙ same_placed plan.n _ _ heads (λ s h. ap (λ (byte : ℕ). (start_of plan.n s byte).head)
      (ap (λ (part : List ℕ). get_or part s 0) are ∙ byte_of_part file 2 plan.n s h))

  many_last : length last ≡ plan.n
  many_last =
      ap length (rounds ∙ ap (rounds_in file plan r) started)
      ∙ rounds_length file plan r (starts_in file plan.n heads)
      ∙ placed_length plan.n (start_in file plan.n) heads ∙ many

  -- what the table holds then
  pub table_is : last ++ rest ≡ table_after file table
  unfolding table_after
  table_is =
      ap (λ (l : List Head). l ++ rest)
      (rounds ∙ ap₂ (λ (r : ℕ) (t : List Head). rounds_in file plan r t) ends started)
      ∙ sym (rounds-append file plan plan.rounds (starts_in file plan.n heads) rest
      (omega (arith, placed_length plan.n (start_in file plan.n) heads, many)))
      ∙ ap (rounds_in file plan plan.rounds)
      (sym (placed-append plan.n (start_in file plan.n) heads rest (omega (arith, many))))
      ∙ ap (λ (t : List Head). rounds_in file plan plan.rounds (starts_in file plan.n t))
      (take-append-drop plan.n table)
      ∙ ap (λ (p : Plan). rounds_in file p p.rounds (starts_in file p.n table)) is

  -- and the answer
  pub answer_is : outcome_in file plan (sum_by added last) ≡ outcome_of file table
  unfolding outcome_of
  answer_is =
      ap (λ (decided : ℕ). outcome_in file plan decided)
      (ap (sum_by added) (sym (take_all plan.n last (omega (arith, many_last))))
      ∙ sym (decided_is last rest plan.n (omega (arith, many_last)))
      ∙ ap (λ (t : List Head). decided_in t plan.n) table_is)
      ∙ ap (λ (p : Plan). outcome_in file p (decided_in (table_after file table) p.n)) is
