-- What the words of a command line ask for. Assumes nothing.
use Rattle.std.specs.Prelude.{Bool, cond, ◌||◌, List, [], ◌∷◌, Some, None, codes, Option}
use Rattle.std.specs.Borrow.{Bor}
use Rattle.std.specs.List.{list_any}
use Rattle.std.specs.Str.{bytes_eq}
use Rattle.scripts.specs.Words.{Bytes}
use Rattle.commands.specs.Names.{command_of, key_command_of}
use Rattle.commands.specs.declared.command.Command.{Command}
use Rattle.commands.specs.declared.misuse.Misuse.{Misuse}
use Rattle.commands.specs.declared.misuse.Misuse.TheVariants.{NoCommand, NoSuchCommand, NoCommandOnKeys, NoSuchCommandOnKeys}
use Rattle.commands.specs.declared.usage.Page.{Page}
use Rattle.commands.specs.declared.usage.Page.TheVariants.{Overview, Keys, Of}
use Rattle.commands.specs.declared.choice.Choice.{Choice}
use Rattle.commands.specs.declared.choice.Choice.TheVariants.{Print, Run, Misused}

-- the words of a command line, each of whose bytes are `.now`
abbrev pub WordList : Type 0
WordList = List (Bor Bytes)

-- a usage to be printed, a command with the words behind it, or what is wrong
pub data Asked : Type 0 where
  print : Page → Asked
  run : Command → WordList → Asked
  misused : Misuse → Page → Asked

abbrev pub choice_told : Choice → Asked
choice_told (Print page) = print page
choice_told (Run command words) = run command words.now
choice_told (Misused what page) = misused what page

abbrev pub is_help : Bytes → Bool
is_help word = bytes_eq word (codes "--help") || bytes_eq word (codes "help")

-- `--help` may stand anywhere behind the command
abbrev pub command_chosen : Command → WordList → Asked
command_chosen command words = cond (list_any (λ word. bytes_eq word.now (codes "--help")) words) (print (Of command)) (run command words)

-- a word that is in no table names no command
abbrev pub named_chosen : Option Command → Misuse → Page → WordList → Asked
named_chosen None what page words = misused what page
named_chosen (Some command) what page words = command_chosen command words

abbrev pub key_chosen : WordList → Asked
key_chosen [] = misused NoCommandOnKeys Keys
key_chosen (word ∷ rest) = cond (is_help word.now) (print Keys) (named_chosen (key_command_of word.now) NoSuchCommandOnKeys Keys rest)

abbrev pub chosen : WordList → Asked
chosen [] = misused NoCommand Overview
chosen (word ∷ rest) = cond (is_help word.now) (print Overview) (cond (bytes_eq word.now (codes "key")) (key_chosen rest) (named_chosen (command_of word.now) NoSuchCommand Overview rest))
