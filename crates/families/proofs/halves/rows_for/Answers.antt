use Rattle.std.proofs.Common.{◌≡◌, ◌+◌, ◌<◌, ◌≤◌, ltb, get_or, sym, ◌∙◌, inl, inr, arith, rules}
use Rattle.std.proofs.lemmas.Bool.{cases_lt, ltb-true, ltb-false}
use Rattle.std.proofs.lemmas.List.Sorted.{IsPartitionPoint-from_clause}
use Rattle.families.specs.Halves.{limits}
use Rattle.families.proofs.Ranks.{first_limit_at, limits_parted}
use Rattle.families.proofs.halves.rows_for.Goals as goal

pub returns : goal.returns
returns c =
    let n = c.args.n in
    let i = c.partition_point.result in
    let parts = IsPartitionPoint-from_clause (λ limit. ltb limit n) limits i c.partition_point.ensures.partitioned (limits_parted n) (λ a r f' q. search rules) in
    let most : i ≤ 10 = elim (cases_lt 10 i) [
      | inl h ↦ let high : 924 < n = ltb-true 924 n (parts.0 10 0 (omega arith) h) in absurd (omega arith)
      | inr h ↦ h
    ] in
    let order : i + 2 ≡ 2 + i = omega arith in
    record {
      value = order ∙ sym (first_limit_at limits 2 n i (omega arith) (λ k h. ltb-true (get_or limits k 0) n (parts.0 k 0 (omega arith) h)) (ltb-false (get_or limits i 0) n (parts.1 i 0 (omega arith) (omega arith))));
      bound = omega arith;
    }
