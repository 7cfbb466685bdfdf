-- What drawing a number of a key in a file answers and leaves, and the public part. Assumes nothing.
use Rattle.std.specs.Prelude.{ℕ, ◌+◌, Some, None, Ok, Err, Option, Result}
use Rattle.std.specs.Result.{result_map_both}
use Rattle.answers.specs.declared.Refusal.{Refusal}
use Rattle.answers.specs.Refusals.{on_ok}
use Rattle.keys.specs.Key.{drawn_once, draw_answer}
use Rattle.lms.specs.Lms.{lms_root}
use Rattle.scripts.specs.Words.{Bytes}
use Rattle.sha256.specs.Sha256.{sha256_of}
use Rattle.keyfiles.specs.Making.{Held, key_answer}
use Rattle.keyfiles.specs.declared.file.KeyFile.{KeyFile}
use Rattle.keyfiles.specs.declared.file.KeyFile.TheVariants.{Key, Public}
use Rattle.keyfiles.specs.declared.words.KeyWords.{KeyWords}
use Rattle.keyfiles.specs.declared.words.KeyWords.TheVariants.{Tag, Lms}

-- the key after it drew a number
abbrev pub drawn_from : Held → Held
drawn_from k = record { kind = k.kind; says = k.says; signature = k.signature; key = drawn_once k.key }

-- a number drawn: the key afterwards, and the number behind the key's name
abbrev pub drawn_by : Held → Result (Held × (Bytes × ℕ)) Refusal
drawn_by k = result_map_both (λ number. (drawn_from k, (k.key.name, number))) (λ e. e) (draw_answer k.key)

-- the same by the key that words make
abbrev pub words_drawn : KeyWords → Result (Held × (Bytes × ℕ)) Refusal
words_drawn w = on_ok (key_answer w) drawn_by

-- by the key in a file: a public part draws none
abbrev pub file_drawn : KeyFile → Result (Option (Held × (Bytes × ℕ))) Refusal
file_drawn (Key w) = result_map_both (λ d. Some d) (λ e. e) (words_drawn w)
file_drawn (Public w) = Ok None

abbrev pub words_next : KeyWords → ℕ
words_next (Tag w) = w.next
words_next (Lms w) = w.next

-- the words with the next number one higher
abbrev pub raised : KeyWords → KeyWords
raised (Tag w) = Tag (record { digest = w.digest; secret = w.secret; name = w.name; next = w.next + 1 })
raised (Lms w) = Lms (record { id = w.id; seed = w.seed; next = w.next + 1 })

-- which they are where a number was drawn
abbrev pub raised_by : {A : Type 0} → Result A Refusal → KeyWords → KeyWords
raised_by (Ok a) w = raised w
raised_by (Err e) w = w

abbrev pub words_after : KeyWords → KeyWords
words_after w = raised_by (words_drawn w) w

abbrev pub file_after : KeyFile → KeyFile
file_after (Key w) = Key (words_after w)
file_after (Public w) = Public w

-- the public part of an LMS key's words
abbrev pub public_part : Bytes → Bytes → KeyFile
public_part id seed = Public (record { id = id; root = lms_root sha256_of id seed })

abbrev pub public_of : KeyFile → Option KeyFile
public_of (Key (Tag w)) = None
public_of (Key (Lms w)) = Some (public_part w.id w.seed)
public_of (Public w) = Some (Public w)
