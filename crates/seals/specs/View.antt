-- The blocks that a call looks at. Assumes nothing.
use Rattle.std.specs.Prelude.{◌≤◌, List, length, Some, None, Option, IfSome}
use Rattle.digests.specs.Strings.{Bytes}
use Rattle.sheets.specs.Blocks.{blocks_of}
use Rattle.sheets.specs.Table.{max_bytes}
use Rattle.sheets.specs.Calls.{with_block}
use Rattle.seals.specs.declared.frames.Offer.{Offer}
use Rattle.seals.specs.declared.frames.View.{View}

-- the blocks, with offered bytes in place of one, if there are such
abbrev pub offered_in : List Bytes → Option Offer → List Bytes
offered_in bs None = bs
offered_in bs (Some offer) = with_block bs offer.number.0 offer.bytes.now

abbrev pub viewed : View → List Bytes
viewed v = offered_in (blocks_of v.sheet.now) v.offer

-- what is offered is for a block that is there, and no longer than a sheet
abbrev pub Placed : View → Type 0
Placed v = IfSome v.offer (λ o. (1 ≤ o.number.0) × (o.number.0 ≤ length (blocks_of v.sheet.now)) × (length o.bytes.now ≤ max_bytes))
