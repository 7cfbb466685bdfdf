-- Each command has a name.
use Rattle.std.proofs.Common.{codes, refl, inl, inr}
use Rattle.commands.specs.Names.{IsNamed}
use Rattle.commands.specs.declared.command.Command.{Command}
use Rattle.commands.specs.declared.command.Command.TheVariants.{KeyNew, KeyPublic, KeyShow, Seal, Check, Rewrite, Vouch, Excerpt, Confirm, Part, Show, Lines, Demo, Replay}

pub each_named : (command : Command) → IsNamed command
each_named KeyNew = (codes "new", inr refl)
each_named KeyPublic = (codes "public", inr refl)
each_named KeyShow = (codes "show", inr refl)
each_named Seal = (codes "seal", inl refl)
each_named Check = (codes "check", inl refl)
each_named Rewrite = (codes "rewrite", inl refl)
each_named Vouch = (codes "vouch", inl refl)
each_named Excerpt = (codes "excerpt", inl refl)
each_named Confirm = (codes "confirm", inl refl)
each_named Part = (codes "part", inl refl)
each_named Show = (codes "show", inl refl)
each_named Lines = (codes "lines", inl refl)
each_named Demo = (codes "demo", inl refl)
each_named Replay = (codes "replay", inl refl)
