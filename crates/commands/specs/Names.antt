-- The commands by their names. Assumes nothing.
use Rattle.std.specs.Prelude.{◌≡◌, ◌⊎◌, [], ◌∷◌, Some, codes, Option}
use Rattle.scripts.specs.Words.{Bytes, entry_at}
use Rattle.commands.specs.declared.command.Command.{Command}
use Rattle.commands.specs.declared.command.Command.TheVariants.{KeyNew, KeyPublic, KeyShow, Seal, Check, Rewrite, Vouch, Excerpt, Confirm, Part, Show, Lines, Demo, Replay}

-- the first words
abbrev pub command_of : Bytes → Option Command
command_of =
    entry_at
    ((codes "seal", Seal)
    ∷ ((codes "check", Check)
    ∷ ((codes "rewrite", Rewrite)
    ∷ ((codes "vouch", Vouch)
    ∷ ((codes "excerpt", Excerpt)
    ∷ ((codes "confirm", Confirm)
    ∷ ((codes "part", Part)
    ∷ ((codes "show", Show)
    ∷ ((codes "lines", Lines)
    ∷ ((codes "demo", Demo)
    ∷ ((codes "replay", Replay) ∷ [])))))))))))

-- the words behind `key`
abbrev pub key_command_of : Bytes → Option Command
key_command_of = entry_at ((codes "new", KeyNew) ∷ ((codes "public", KeyPublic) ∷ ((codes "show", KeyShow) ∷ [])))

-- some word names the command
abbrev pub IsNamed : Command → Type 0
IsNamed command = (word : Bytes) × ((command_of word ≡ Some command) ⊎ (key_command_of word ≡ Some command))
