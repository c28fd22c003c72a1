-- What a decoder hands back beside its number: a message and a count, and zeros beside a refusal. Assumes nothing.
use Rattle.std.specs.Prelude.{ℕ, Result, Ok, Err}
use Rattle.verdict.specs.declared.Refusal.{Refusal}
use Rattle.numbers.specs.declared.Decoding.{Decoding}

abbrev pub message : Result Decoding Refusal → ℕ
message (Ok x) = x.message
message (Err e) = 0

abbrev pub mended : Result Decoding Refusal → ℕ
mended (Ok x) = x.mended
mended (Err e) = 0
