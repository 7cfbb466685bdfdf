-- The digest and the family that a seal part names. Assumes nothing.
use Rattle.std.specs.Prelude.{ℕ, cond, Some, None, Ok, Err, Option, Result, ◌==◌}
use Rattle.std.specs.Option.{ok_or}
use Rattle.std.specs.Result.{result_ok}
use Rattle.answers.specs.declared.Refusal.{Refusal}
use Rattle.answers.specs.declared.Refusal.TheVariants.{OtherScheme}
use Rattle.answers.specs.Refusals.{on_ok}
use Rattle.digests.specs.Strings.{Bytes}
use Rattle.families.specs.Shape.{Shape}
use Rattle.families.specs.Choice.{numbered_answer}
use Rattle.families.specs.Making.{single_answer, halves_answer, plane_answer}
use Rattle.seals.specs.Head.{head_answer}
use Rattle.seals.specs.declared.head.PartHead.{PartHead}
use Rattle.seals.specs.Scheme.{Scheme, scheme}
use Rattle.told.specs.Algorithms.{digest_by, digest_number}
use Rattle.told.specs.declared.algorithm.Algorithm.{Algorithm}
use Rattle.told.specs.declared.algorithm.Algorithm.TheVariants.{Sha256, Blake2s}

-- a digest by the number that a seal part names it by
abbrev pub digest_numbered : ℕ → Option Algorithm
digest_numbered kind = cond (kind == 1) (Some Sha256) (cond (kind == 2) (Some Blake2s) None)

-- a digest and a family
abbrev pub scheme_by : Algorithm → Shape → Scheme
scheme_by a f = scheme (digest_by a) (digest_number a) f

-- the family of a kind and n, for kind 3 also of q and k, if there is one
abbrev pub family_named : PartHead → Option Shape
family_named h =
    cond (h.kind == 1) (result_ok (single_answer h.blocks))
    (cond (h.kind == 2) (result_ok (halves_answer h.blocks))
    (cond (h.kind == 3) (result_ok (numbered_answer h.q h.k h.blocks))
    (cond (h.kind == 4) (result_ok (plane_answer h.blocks)) None)))

-- the digest and the family that a seal part names
abbrev pub scheme_named : Bytes → Result Scheme Refusal
scheme_named part =
    on_ok (ok_or (head_answer part) OtherScheme) (λ h.
    on_ok (ok_or (digest_numbered h.digest_kind) OtherScheme) (λ a.
    on_ok (ok_or (family_named h) OtherScheme) (λ f.
    Ok (scheme_by a f))))
