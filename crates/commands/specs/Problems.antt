-- Why a command did not do what it was asked, and what is told of it. Assumes nothing.
use Rattle.std.specs.Prelude.{◌≡◌, Bool, true, false, cond, ◌++◌, Some, None, codes, Option}
use Rattle.std.specs.Borrow.{Bor}
use Rattle.std.specs.IoError.{error_kind}
use Rattle.std.specs.declared.io.Error.{Error}
use Rattle.std.specs.declared.io.ErrorKind.{ErrorKind}
use Rattle.std.specs.declared.io.ErrorKind.TheVariants.{AlreadyExists, NotFound, IsADirectory, ResourceBusy}
use Rattle.desk.specs.declared.stop.Stop.{Stop}
use Rattle.desk.specs.declared.stop.Stop.TheVariants as stops
use Rattle.findings.specs.Refused.{refusal_text}
use Rattle.scripts.specs.Words.{Bytes}
use Rattle.scripts.specs.declared.error.ParseError.{ParseError}
use Rattle.scripts.specs.declared.error.ParseError.TheVariants as readings
use Rattle.commands.specs.Usages.{misuse_text, page_text}
use Rattle.commands.specs.declared.problem.Problem.{Problem}
use Rattle.commands.specs.declared.problem.Problem.TheVariants.{Usage, File, NotAKey, CannotSeal, NoPublicPart, InUse, Refused, OutOfMemory, Output}

-- what a line says of a file
abbrev pub line_about : Bytes → Bytes → Bytes
line_about path words = path ++ (codes ": " ++ (words ++ codes "\n"))

-- the kinds of errors that are told in words of our own
unfoldable pub own_words : ErrorKind → Option Bytes
own_words AlreadyExists = Some (codes "is there already, and is not overwritten")
own_words NotFound = Some (codes "no such file or folder")
own_words IsADirectory = Some (codes "a folder, not a file")
own_words _ = None

-- a line of those words, or else of words that no contract knows, the system's
abbrev pub TellsOf : Bytes → Option Bytes → Bytes → Type 0
TellsOf path (Some words) text = text ≡ line_about path words
TellsOf path None text = (words : Bytes) × (text ≡ line_about path words)

-- what is told of a problem
abbrev pub Tells : Problem → Bytes → Type 0
Tells (Usage what page) text = text ≡ misuse_text what ++ (codes "\n" ++ page_text page)
Tells (File path error) text = TellsOf path.now (own_words (error_kind error)) text
Tells (NotAKey path) text = text ≡ line_about path.now (codes "not a key file")
Tells (CannotSeal path) text = text ≡ line_about path.now (codes "the public part of a key, which signs no seal")
Tells (NoPublicPart path) text = text ≡ line_about path.now (codes "a tag key has no public part")
Tells (InUse path) text = text ≡ line_about path.now (codes "in use by another program")
Tells (Refused refusal) text = text ≡ refusal_text refusal
Tells OutOfMemory text = text ≡ codes "out of memory\n"
Tells (Output error) text = TellsOf (codes "standard output") None text

-- what a stop is
abbrev pub stop_problem : Stop → Problem
stop_problem (stops.Refused refusal) = Refused refusal
stop_problem (stops.OutOfMemory error) = OutOfMemory

-- what it means that a key file was not read
abbrev pub key_problem : Bor Bytes → ParseError → Problem
key_problem path readings.NotUnderstood = NotAKey path
key_problem path (readings.OutOfMemory error) = OutOfMemory

unfoldable pub is_busy : ErrorKind → Bool
is_busy ResourceBusy = true
is_busy _ = false

-- what it means that a key file was not locked
abbrev pub lock_problem : Bor Bytes → Error → Problem
lock_problem path error = cond (is_busy (error_kind error)) (InUse path) (File path error)
