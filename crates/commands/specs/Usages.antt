-- What is said of a command line that is none. Assumes nothing.
use Rattle.std.specs.Prelude.{codes}
use Rattle.scripts.specs.Words.{Bytes}
use Rattle.commands.specs.declared.command.Command.{Command}
use Rattle.commands.specs.declared.command.Command.TheVariants.{KeyNew, KeyPublic, KeyShow, Seal, Check, Rewrite, Vouch, Excerpt, Confirm, Part, Show, Lines, Demo, Replay}
use Rattle.commands.specs.declared.misuse.Misuse.{Misuse}
use Rattle.commands.specs.declared.misuse.Misuse.TheVariants.{NoCommand, NoSuchCommand, NoCommandOnKeys, NoSuchCommandOnKeys, LackingWord, NoSuchOption, WordCount, NotANumber, NoSuchDigest, NoSuchKind, NotAName, NoChoiceOfDigest}
use Rattle.commands.specs.declared.usage.Page.{Page}
use Rattle.commands.specs.declared.usage.Page.TheVariants.{Overview, Keys, Of}
use Rattle.commands.specs.declared.usage.TheConstants as texts

-- what is wrong
abbrev pub misuse_text : Misuse → Bytes
misuse_text NoCommand = codes "which command?"
misuse_text NoSuchCommand = codes "no such command"
misuse_text NoCommandOnKeys = codes "which command on keys?"
misuse_text NoSuchCommandOnKeys = codes "no such command on keys"
misuse_text LackingWord = codes "an option lacks its word"
misuse_text NoSuchOption = codes "no such option"
misuse_text WordCount = codes "too few or too many words"
misuse_text NotANumber = codes "not a number up to 65535"
misuse_text NoSuchDigest = codes "no such digest"
misuse_text NoSuchKind = codes "a key is tag or lms"
misuse_text NotAName = codes "a name is 16 lower-case hex digits"
misuse_text NoChoiceOfDigest = codes "an LMS key has no choice of digest"

-- each command's own text
abbrev pub usage_text : Command → Bytes
usage_text KeyNew = texts.KEY_NEW.now
usage_text KeyPublic = texts.KEY_PUBLIC.now
usage_text KeyShow = texts.KEY_SHOW.now
usage_text Seal = texts.SEAL.now
usage_text Check = texts.CHECK.now
usage_text Rewrite = texts.REWRITE.now
usage_text Vouch = texts.VOUCH.now
usage_text Excerpt = texts.EXCERPT.now
usage_text Confirm = texts.CONFIRM.now
usage_text Part = texts.PART.now
usage_text Show = texts.SHOW.now
usage_text Lines = texts.LINES.now
usage_text Demo = texts.DEMO.now
usage_text Replay = texts.REPLAY.now

abbrev pub page_text : Page → Bytes
page_text Overview = texts.OVERVIEW.now
page_text Keys = texts.KEYS.now
page_text (Of command) = usage_text command
