-- Where the input stands before anything is read.
use Rattle.std.specs.Prelude.{false}
use Rattle.trial_input.specs.declared.Input.{Input}

abbrev pub no_input : Input
no_input = record { taken = 0; piece_length = 0; line_length = 0; ended = false }
