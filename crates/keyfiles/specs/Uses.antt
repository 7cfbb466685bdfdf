-- What is made of a key file, and what is told of it. Assumes nothing.
use Rattle.std.specs.Prelude.{ℕ, ◌-◌, Bool, [], ◌∷◌, ◌++◌, take, Some, None, Ok, codes, decimal, Option, Result}
use Rattle.std.specs.Result.{result_map_both}
use Rattle.answers.specs.declared.Refusal.{Refusal}
use Rattle.keys.specs.Tag.{tag_limit}
use Rattle.lms.specs.Key.{lms_limit}
use Rattle.lms.specs.Lms.{public_key, lms_says}
use Rattle.scripts.specs.Hex.{hex_text}
use Rattle.scripts.specs.Words.{Bytes}
use Rattle.sha256.specs.Sha256.{sha256_of}
use Rattle.told.specs.Algorithms.{algorithm_name}
use Rattle.keyfiles.specs.Making.{Held, key_answer, words_kind, words_says}
use Rattle.keyfiles.specs.declared.file.KeyFile.{KeyFile}
use Rattle.keyfiles.specs.declared.file.KeyFile.TheVariants.{Key, Public}
use Rattle.keyfiles.specs.declared.words.KeyWords.TheVariants.{Tag, Lms}

-- making the key that draws and signs: a public part has none
abbrev pub sealer_answer : KeyFile → Result (Option Held) Refusal
sealer_answer (Key w) = result_map_both (λ k. Some k) (λ e. e) (key_answer w)
sealer_answer (Public w) = Ok None

-- the kind of its signatures
abbrev pub file_kind : KeyFile → ℕ
file_kind (Key w) = words_kind w
file_kind (Public w) = 2

-- what it says to signatures
abbrev pub file_says : KeyFile → ℕ → Bytes → Bytes → Bool
file_says (Key w) = words_says w
file_says (Public w) = lms_says sha256_of (public_key w.id w.root)

-- the next number, and the count left below a limit
abbrev pub numbers_text : ℕ → ℕ → Bytes
numbers_text limit next = codes "next " ++ (decimal next ++ (10 ∷ (codes "left " ++ (decimal (limit - next) ++ 10 ∷ []))))

-- all of it that is no secret
abbrev pub described_text : KeyFile → Bytes
described_text (Key (Tag w)) = codes "kind tag " ++ (algorithm_name w.digest ++ (10 ∷ (codes "name " ++ (hex_text w.name ++ (10 ∷ numbers_text tag_limit w.next)))))
described_text (Key (Lms w)) = codes "kind lms" ++ (10 ∷ (codes "name " ++ (hex_text (take 8 w.id) ++ (10 ∷ numbers_text lms_limit w.next))))
described_text (Public w) = codes "kind lms, public part" ++ (10 ∷ (codes "name " ++ (hex_text (take 8 w.id) ++ 10 ∷ [])))
