-- The first words of lines, and what each asks. Assumes nothing.
use Rattle.std.specs.Prelude.{[], ◌∷◌, Some, None, codes, Option}
use Rattle.std.specs.Option.{option_map}
use Rattle.scripts.specs.Words.{Bytes, first_word, behind_word, entry_at}
use Rattle.scripts.specs.Hex.{hex_text}
use Rattle.told.specs.Algorithms.{digest_by}
use Rattle.vectors.specs.Asked.{question_answer}
use Rattle.vectors.specs.Families.{family_answer, rows_answer, choice_answer}
use Rattle.vectors.specs.Tags.{tag_answer, inspect_answer}
use Rattle.vectors.specs.LmsLines.{root_answer, sign_answer, verify_answer}
use Rattle.vectors.specs.declared.digest.Question.TheVariants as questions
use Rattle.told.specs.declared.algorithm.Algorithm.TheVariants.{Sha256, Blake2s}
use Rattle.vectors.specs.declared.verb.Verb.{Verb}
use Rattle.vectors.specs.declared.verb.Verb.TheVariants.{Digest, Family, Rows, Choose, Tag, Inspect, LmsRoot, LmsSign, LmsVerify}

abbrev pub verb_of : Bytes → Option Verb
verb_of =
    entry_at
    ((codes "sha256", Digest Sha256 questions.Digest)
    ∷ ((codes "hmac-sha256", Digest Sha256 questions.Hmac)
    ∷ ((codes "repeat-sha256", Digest Sha256 questions.Repeat)
    ∷ ((codes "blake2s", Digest Blake2s questions.Digest)
    ∷ ((codes "hmac-blake2s", Digest Blake2s questions.Hmac)
    ∷ ((codes "repeat-blake2s", Digest Blake2s questions.Repeat)
    ∷ ((codes "family", Family) ∷ ((codes "rows", Rows) ∷ ((codes "choose", Choose)
    ∷ ((codes "tag", Tag) ∷ ((codes "inspect", Inspect)
    ∷ ((codes "lms-root", LmsRoot) ∷ ((codes "lms-sign", LmsSign) ∷ ((codes "lms-verify", LmsVerify) ∷ []))))))))))))))

-- the text that a first word answers, with what stands behind the space after it
abbrev pub verb_answer : Verb → Option Bytes → Option Bytes
verb_answer (Digest algorithm question) rest = option_map hex_text (question_answer question (digest_by algorithm) 64 rest)
verb_answer Family rest = family_answer rest
verb_answer Rows rest = rows_answer rest
verb_answer Choose rest = choice_answer rest
verb_answer Tag rest = tag_answer rest
verb_answer Inspect rest = inspect_answer rest
verb_answer LmsRoot rest = root_answer rest
verb_answer LmsSign rest = sign_answer rest
verb_answer LmsVerify rest = verify_answer rest

-- a first word that is in no table has no answer
abbrev pub answer_if : Option Verb → Option Bytes → Option Bytes
answer_if None rest = None
answer_if (Some verb) rest = verb_answer verb rest

-- the text that a line answers, if it is understood
unfoldable pub line_answer : Bytes → Option Bytes
line_answer line = answer_if (verb_of (first_word line)) (behind_word line)
