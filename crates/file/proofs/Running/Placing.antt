-- The table with heads placed in it: who stands where, and who is left alone.
use Prim.Native.Nat.{ℕ, zero, suc, ◌+◌, ◌≤◌, ◌<◌}
use mathlib.Core.Path.{◌≡◌, refl, sym, ◌∙◌}
use mathlib.Core.List.{List}
use native.Mathlib.Decide.{ℕ_discrete}
use native.Mathlib.Omega.{arith}
use lib.ListN.{length, set, drop, length-set, length-drop}
use lib.Seq.{get_or-set_same, get_or-set_other, get_or-drop, ext_get_or}
use Rattle.rules.specs.declared.Head.{Head}
use Rattle.rules.specs.Head.{zero_head}
use Rattle.file.specs.Plan.{Plan, plan_for}
use Rattle.file.specs.Table.{head_of, placed, rows_in, coins_in, ticked_in, round_in, rounds_in, start_in, starts_in}
use Rattle.file.specs.Table.{table_after}

pub placed_length : (k : ℕ) (f : ℕ → Head) (table : List Head) → length (placed k f table) ≡ length table
unfolding placed
placed_length zero f table = refl
placed_length (suc k) f table = length-set (placed k f table) k (f k) ∙ placed_length k f table

-- from k on nothing is placed
pub placed_rest : (k : ℕ) (f : ℕ → Head) (table : List Head) (s : ℕ) → k ≤ s
    → head_of (placed k f table) s ≡ head_of table s
unfolding placed
placed_rest zero f table s h = refl
placed_rest (suc k) f table s h =
    get_or-set_other (placed k f table) k s (f k) zero_head (λ e. omega (arith, e)) ∙ placed_rest k f table s (omega arith)

-- below k stands what f gives
pub placed_at : (k : ℕ) (f : ℕ → Head) (table : List Head) (s : ℕ) → s < k → k ≤ length table
    → head_of (placed k f table) s ≡ f s
unfolding placed
placed_at zero f table s h room = absurd (omega arith)
placed_at (suc k) f table s h room = go (ℕ_discrete s k) (placed_at k f table s)
  where
    go : Dec (s ≡ k) → (s < k → k ≤ length table → head_of (placed k f table) s ≡ f s)
        → head_of (set (placed k f table) k (f k)) s ≡ f s
    go (yes e) g = rw e (get_or-set_same (placed k f table) k (f k) zero_head (omega (arith, placed_length k f table)))
    go (no e) g = get_or-set_other (placed k f table) k s (f k) zero_head e ∙ g (omega (arith, e)) (omega arith)

pub round_length : (n : ℕ) (rows coins : List ℕ) (table : List Head)
    → length (round_in n rows coins table) ≡ length table
unfolding round_in
round_length n rows coins table = placed_length n (ticked_in n rows coins table) table

module _ (file : List ℕ) (plan : Plan) where
  pub rounds_length : (r : ℕ) (table : List Head) → length (rounds_in file plan r table) ≡ length table
  unfolding rounds_in
  rounds_length zero table = refl
  rounds_length (suc r) table =
      round_length plan.n (rows_in file plan r) (coins_in file plan r) (rounds_in file plan r table)
      ∙ rounds_length r table

  pub rounds_rest : (r : ℕ) (table : List Head) (s : ℕ) → plan.n ≤ s
      → head_of (rounds_in file plan r table) s ≡ head_of table s
  unfolding rounds_in round_in
  rounds_rest zero table s h = refl
  rounds_rest (suc r) table s h = placed_rest plan.n _ (rounds_in file plan r table) s h ∙ rounds_rest r table s h

pub after_length : (file : List ℕ) (table : List Head) → length (table_after file table) ≡ length table
unfolding table_after
after_length file table =
    let plan = plan_for file table in
    rounds_length file plan plan.rounds (starts_in file plan.n table)
    ∙ placed_length plan.n (start_in file plan.n) table

-- "the others are untouched"
pub after_rest : (file : List ℕ) (table : List Head) (s : ℕ) → (plan_for file table).n ≤ s
    → head_of (table_after file table) s ≡ head_of table s
unfolding table_after
after_rest file table s h =
    let plan = plan_for file table in
    rounds_rest file plan plan.rounds (starts_in file plan.n table) s h
    ∙ placed_rest plan.n (start_in file plan.n) table s h

pub after_drop : (file : List ℕ) (table : List Head)
    → drop (plan_for file table).n (table_after file table) ≡ drop (plan_for file table).n table
after_drop file table = ext_get_or zero_head (drop n (table_after file table)) (drop n table) long each
  where
    n : ℕ
    n = (plan_for file table).n

    long : length (drop n (table_after file table)) ≡ length (drop n table)
    long = omega (arith, length-drop n (table_after file table), length-drop n table, after_length file table)

    each : (i : ℕ) → i < length (drop n (table_after file table))
        → head_of (drop n (table_after file table)) i ≡ head_of (drop n table) i
    each i h =
        get_or-drop n (table_after file table) i zero_head
        ∙ after_rest file table (n + i) (omega arith)
        ∙ sym (get_or-drop n table i zero_head)

-- no heads and no rounds: nothing changes
pub after_nothing : (file : List ℕ) (table : List Head) → (plan_for file table).n ≡ 0 → (plan_for file table).rounds ≡ 0
    → table_after file table ≡ table
unfolding table_after rounds_in placed
after_nothing file table none rounds = rw (rounds, none) refl
