-- One word more is read.
use Rattle.std.proofs.Common.{◌≡◌, ◌++◌, [], ◌∷◌, true, false, Some, None, Option, refl, append_assoc}
use Rattle.std.specs.Borrow.{Bor}
use Rattle.scripts.specs.Words.{Bytes}
use Rattle.commands.specs.Choices.{WordList}
use Rattle.commands.specs.Readings.{OptionList, is_option, operands_of, options_of, lacks_word}

-- what is still to be read is joined to what was
pub record Reads (here rest : WordList) (name next : Option (Bor Bytes)) (operands operands' : WordList) (options options' : OptionList) : Type 0 where
  pub operands_on : operands' ++ operands_of next rest ≡ operands ++ operands_of name here
  pub options_on : options' ++ options_of next rest ≡ options ++ options_of name here
  pub lacks_on : lacks_word next rest ≡ lacks_word name here

-- the word of an option
pub value_read : (option word : Bor Bytes) (here rest : WordList) (name : Option (Bor Bytes)) (operands : WordList) (options : OptionList) → name ≡ Some option → here ≡ word ∷ rest
    → Reads here rest name None operands operands options (options ++ (option, word) ∷ [])
value_read option word here rest name operands options n e = record {
  operands_on = rw (n, e) refl;
  options_on = rw (n, e) (append_assoc options ((option, word) ∷ []) (options_of None rest));
  lacks_on = rw (n, e) refl;
}

-- an option
pub option_read : (word : Bor Bytes) (here rest : WordList) (name : Option (Bor Bytes)) (operands : WordList) (options : OptionList) → name ≡ None → here ≡ word ∷ rest → is_option word.now ≡ true
    → Reads here rest name (Some word) operands operands options options
option_read word here rest name operands options n e o = record {
  operands_on = rw (n, e, o) refl;
  options_on = rw (n, e, o) refl;
  lacks_on = rw (n, e, o) refl;
}

-- a word that the command works on
pub operand_read : (word : Bor Bytes) (here rest : WordList) (name : Option (Bor Bytes)) (operands : WordList) (options : OptionList) → name ≡ None → here ≡ word ∷ rest → is_option word.now ≡ false
    → Reads here rest name None operands (operands ++ word ∷ []) options options
operand_read word here rest name operands options n e o = record {
  operands_on = rw (n, e, o) (append_assoc operands (word ∷ []) (operands_of None rest));
  options_on = rw (n, e, o) refl;
  lacks_on = rw (n, e, o) refl;
}
