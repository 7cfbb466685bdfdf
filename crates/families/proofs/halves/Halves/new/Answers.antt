use Rattle.std.proofs.Common.{◌≡◌, ◌^◌, ◌≤◌, sym, ap, ◌∙◌, subst, arith}
use Rattle.families.specs.Halves.{half_ones, halves_rows}
use Rattle.families.specs.Numbers.{count}
use Rattle.families.specs.HalvesLaw.{rows_suffice}
use Rattle.families.proofs.halves.Halves.new.Goals as goal

pub rank_words-words-requires : goal.rank_words-words-requires
rank_words-words-requires c =
    let n = c.get-2.result in
    let same : c.get.result ≡ n = omega arith in (
      c.rows_for-t.ensures.bound,
      omega arith,
      subst (λ t. n ≤ count (half_ones t) (2 ^ t)) (sym (c.rows_for-t.ensures.value ∙ ap halves_rows same)) (rows_suffice n (omega arith)),
    )
