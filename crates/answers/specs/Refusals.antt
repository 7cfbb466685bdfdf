-- What a refusal stands for, and how an ordered list of causes decides an answer. Assumes nothing.
use Rattle.std.specs.Prelude.{ℕ, Bool, true, false, List, [], ◌∷◌, ◌++◌, Ok, Err, codes, decimal, Result}
use Rattle.answers.specs.declared.Refusal.{Refusal}
use Rattle.answers.specs.declared.Refusal.TheVariants.{EmptyText, TooManyLines, TooLong, NoSuchBlock, BadBlockCount, NoSuchParameter, NoRoom, Malformed, NotGenuine, RowLacksBlock, WrongExcerpt, RowDiffers, SheetFull, SheetNotEmpty, SheetEmpty, NoneLeft, NotDrawn, OtherScheme, OtherBlockCount, TooManySuspects, NoRowVouches}

-- each refusal's number, and the values that it carries
abbrev pub meaning : Refusal → ℕ × List ℕ
meaning EmptyText = (1, [])
meaning TooManyLines = (2, [])
meaning TooLong = (3, [])
meaning NoSuchBlock = (4, [])
meaning BadBlockCount = (5, [])
meaning NoSuchParameter = (6, [])
meaning NoRoom = (7, [])
meaning Malformed = (8, [])
meaning NotGenuine = (9, [])
meaning RowLacksBlock = (10, [])
meaning WrongExcerpt = (11, [])
meaning RowDiffers = (12, [])
meaning SheetFull = (21, [])
meaning SheetNotEmpty = (22, [])
meaning SheetEmpty = (23, [])
meaning NoneLeft = (24, [])
meaning NotDrawn = (25, [])
meaning OtherScheme = (26, [])
meaning OtherBlockCount = (27, [])
meaning (TooManySuspects count) = (28, count ∷ [])
meaning NoRowVouches = (29, [])

abbrev pub number_of : Refusal → ℕ
number_of r = (meaning r).0

abbrev pub values_of : Refusal → List ℕ
values_of r = (meaning r).1

-- the same in plain words
abbrev pub reason_of : Refusal → List ℕ
reason_of EmptyText = codes "the text is empty"
reason_of TooManyLines = codes "the text has more than 512 lines"
reason_of TooLong = codes "more than 38,912 bytes"
reason_of NoSuchBlock = codes "no such block"
reason_of BadBlockCount = codes "no family for so many blocks"
reason_of NoSuchParameter = codes "no such family, or the key's next number is above its limit"
reason_of NoRoom = codes "the list or buffer is too short"
reason_of Malformed = codes "not a seal part or not a sealed file"
reason_of NotGenuine = codes "not signed by this key"
reason_of RowLacksBlock = codes "the row does not hold the block"
reason_of WrongExcerpt = codes "the excerpt is not the row's other blocks"
reason_of RowDiffers = codes "the row's digest differs"
reason_of SheetFull = codes "the sheet is full"
reason_of SheetNotEmpty = codes "the sheet is not empty"
reason_of SheetEmpty = codes "the sheet is empty"
reason_of NoneLeft = codes "the key has no numbers left"
reason_of NotDrawn = codes "the number was not drawn by this key"
reason_of OtherScheme = codes "another family or digest than the seal's"
reason_of OtherBlockCount = codes "another count of blocks than the seal's"
reason_of (TooManySuspects count) = codes "too many blocks were changed to say which"
reason_of NoRowVouches = codes "no row tells that the bytes are the sealed ones"

-- each number in decimal, with a space before it
abbrev pub spaced : List ℕ → List ℕ
spaced [] = []
spaced (n ∷ ns) = codes " " ++ (decimal n ++ spaced ns)

-- the text of a refusal: the word, its number and its values
abbrev pub shown_as : Refusal → List ℕ
shown_as r = codes "refused" ++ spaced (number_of r ∷ values_of r)

-- The first cause that holds decides; where none does, the result stands.
abbrev pub unless : {A : Type 0} → List (Bool × Refusal) → A → Result A Refusal
unless [] a = Ok a
unless (c ∷ cs) a = elim c.0 [ true ↦ Err c.1 | false ↦ unless cs a ]

-- what a call makes of another's answer, unless that one is refused
abbrev pub on_ok : {A B : Type 0} → Result A Refusal → (A → Result B Refusal) → Result B Refusal
on_ok (Ok a) f = f a
on_ok (Err e) f = Err e
