-- The worked values, by computation. Assumes nothing.
use Rattle.std.proofs.Common.{refl}
use Rattle.lms.specs.Strings.{u16str, u32str, str_to_u32, coefficient, sum_all}
use Rattle.lms.specs.Lmots.{checksum}
use Rattle.lms.specs.Worked.{WorkedValues}

pub worked_values : WorkedValues
unfolding u16str u32str str_to_u32 coefficient sum_all checksum
worked_values =
    record {
      number = refl;
      short_number = refl;
      back = refl;
      bit = refl;
      half_byte = refl;
      byte = refl;
      all_zero = refl;
      all_ones = refl;
      half = refl;
    }
