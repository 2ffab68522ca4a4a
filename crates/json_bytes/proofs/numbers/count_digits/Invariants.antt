use Rattle.std.proofs.Common.{◌≡◌, ◌+◌, drop, min, take}
use Rattle.std.specs.Str.Parse.{digits_value}
use Rattle.json_bytes.specs.Numbers.{digits_len, greatest}
use Rattle.json_bytes.proofs.numbers.count_digits.Given as goal

-- so many digits were counted, and those that are left go on with them
abbrev pub invariant-loop-b : goal.invariant-loop-b
invariant-loop-b l = record {
  count : l.count ≡ min greatest (digits_value 10 (take l.b-index l.text));
  len : l.len ≡ l.b-index;
  digits : digits_len l.text ≡ l.b-index + digits_len (drop l.b-index l.text);
}
