-- What is said of what a call does not find. Assumes nothing.
use Rattle.std.specs.Prelude.{codes}
use Rattle.scripts.specs.Words.{Bytes}
use Rattle.nazkoiber.specs.declared.bench.Missing.{Missing}
use Rattle.nazkoiber.specs.declared.bench.Missing.TheVariants.{NotAccepted, NoPart, NoFamily, NoKey, HandFull, HandEmpty}

abbrev pub missing_text : Missing → Bytes
missing_text NotAccepted = codes "not accepted"
missing_text NoPart = codes "no part"
missing_text NoFamily = codes "no family"
missing_text NoKey = codes "no key"
missing_text HandFull = codes "hand full"
missing_text HandEmpty = codes "hand empty"
