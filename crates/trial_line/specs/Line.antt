-- The lines that replay and records take (docs/REPLAY.md, "Input"): a verb, its arguments and digits, with a space between them.
use Rattle.std.specs.Prelude.{ℕ, ◌+◌, ◌-◌, Option, Some, None, Result, Ok, Err, option_map, List, [], ◌∷◌, eqb, leb, length, take, drop}
use Rattle.wire.specs.Bytes.{pick}
use Rattle.trial_hex.specs.Hex.{Unhexed, place_of, unhexed, unhexed_into}
use Rattle.wire.specs.View.{view, viewed}
use Rattle.wire.specs.declared.View.{View}
use Rattle.models.specs.declared.Afi.{Afi}
use Rattle.models.specs.declared.Afi.TheVariants.{Ipv4, Ipv6}
use Rattle.models.specs.declared.AsnLength.{AsnLength}
use Rattle.models.specs.declared.AsnLength.TheVariants.{Bits16, Bits32}
use Rattle.per_peer_type.specs.declared.BmpPeerType.{BmpPeerType}
use Rattle.per_peer_type.specs.declared.BmpPeerType.TheVariants.{Global, RD, Local, LocalRib}
use Rattle.trial_line.specs.Words.{Row, row, word, starts, same, meaning}
use Rattle.trial_forms.specs.declared.Kind.{Kind}
use Rattle.trial_forms.specs.declared.Kind.TheVariants.{Common, PerPeer, OpenBmp, Stats, Initiation, Termination, Mirroring, PeerUp, PeerDown, Monitoring}
use Rattle.trial_line.specs.declared.Verb.{Verb}
use Rattle.trial_line.specs.declared.Verb.TheVariants.{Read, Rewrite, Split, Equal}
use Rattle.trial_forms.specs.declared.Arguments.{Arguments}
use Rattle.trial_line.specs.declared.Command.{Command}
use Rattle.trial_line.specs.declared.BadLine.{BadLine}

abbrev pub FoundReader : Type 0
FoundReader = Option Kind

abbrev pub FoundVerb : Type 0
FoundVerb = Option Verb

abbrev pub FoundArguments : Type 0
FoundArguments = Option Arguments

-- nothing for an empty line
abbrev pub Line : Type 0
Line = Result (Option Command) BadLine

-- what a line asks for: nothing, or a command with how many bytes its text writes
abbrev pub Asked : Type 0
Asked = Result (Option (Command × ℕ)) BadLine

abbrev pub bad_line : BadLine
bad_line = record {}

abbrev pub readers : List (Row FoundReader)
readers =
    row "common" (Some Common)
    ∷ row "perpeer" (Some PerPeer)
    ∷ row "openbmp" (Some OpenBmp)
    ∷ row "stats" (Some Stats)
    ∷ row "initiation" (Some Initiation)
    ∷ row "termination" (Some Termination)
    ∷ row "mirroring" (Some Mirroring)
    ∷ row "peerup" (Some PeerUp)
    ∷ row "peerdown" (Some PeerDown)
    ∷ row "monitoring" (Some Monitoring)
    ∷ []

unfoldable pub reader_of : List ℕ → FoundReader
reader_of t = meaning readers None t

abbrev pub reading : FoundReader → FoundVerb
reading r = option_map Read r

abbrev pub rewriting : FoundReader → FoundVerb
rewriting r = option_map Rewrite r

unfoldable pub verb_of : List ℕ → FoundVerb
verb_of t =
    pick (same t (word "split")) (Some Split)
    (pick (same t (word "equal")) (Some Equal)
    (pick (starts t (word "rewrite-")) (rewriting (reader_of (drop 8 t))) (reading (reader_of t))))

abbrev pub arguments : Afi → AsnLength → BmpPeerType → Arguments
arguments afi asn peer = record { afi = afi; asn_len = asn; peer_type = peer }

-- asn=16|32,type=0|1|2|3, for a message of a family
abbrev pub peers : Afi → List (Row FoundArguments)
peers afi =
    row "asn=16,type=0" (Some (arguments afi Bits16 Global))
    ∷ row "asn=16,type=1" (Some (arguments afi Bits16 RD))
    ∷ row "asn=16,type=2" (Some (arguments afi Bits16 Local))
    ∷ row "asn=16,type=3" (Some (arguments afi Bits16 LocalRib))
    ∷ row "asn=32,type=0" (Some (arguments afi Bits32 Global))
    ∷ row "asn=32,type=1" (Some (arguments afi Bits32 RD))
    ∷ row "asn=32,type=2" (Some (arguments afi Bits32 Local))
    ∷ row "asn=32,type=3" (Some (arguments afi Bits32 LocalRib))
    ∷ []

unfoldable pub peer_arguments : Afi → List ℕ → FoundArguments
peer_arguments afi t = meaning (peers afi) None t

-- afi=4|6, before the same
unfoldable pub session_arguments : List ℕ → FoundArguments
session_arguments t =
    pick (starts t (word "afi=4,")) (peer_arguments Ipv4 (drop 6 t))
    (pick (starts t (word "afi=6,")) (peer_arguments Ipv6 (drop 6 t)) None)

unfoldable pub no_arguments : List ℕ → FoundArguments
no_arguments t = pick (same t (word "-")) (Some (arguments Ipv4 Bits16 Global)) None

abbrev pub reader_arguments : Kind → List ℕ → FoundArguments
reader_arguments Common t = no_arguments t
reader_arguments PerPeer t = no_arguments t
reader_arguments Stats t = no_arguments t
reader_arguments Initiation t = no_arguments t
reader_arguments Termination t = no_arguments t
reader_arguments PeerDown t = no_arguments t
reader_arguments OpenBmp t = no_arguments t
reader_arguments Mirroring t = peer_arguments Ipv4 t
reader_arguments Monitoring t = peer_arguments Ipv4 t
reader_arguments PeerUp t = session_arguments t

abbrev pub arguments_of : Verb → List ℕ → FoundArguments
arguments_of (Read r) t = reader_arguments r t
arguments_of (Rewrite r) t = reader_arguments r t
arguments_of Split t = no_arguments t
arguments_of Equal t = no_arguments t

abbrev pub command_with : Verb → View → FoundArguments → Option Command
command_with verb text (Some a) = Some (record { verb = verb; arguments = a; text = text })
command_with verb text None = None

abbrev pub command_of : FoundVerb → View → List ℕ → Option Command
command_of (Some verb) text t = command_with verb text (arguments_of verb t)
command_of None text t = None

abbrev pub line_with : Option Command → Line
line_with (Some command) = Ok (Some command)
line_with None = Err bad_line

-- a line by its verb and, behind the first space, the rest
abbrev pub behind_verb : FoundVerb → ℕ → List ℕ → Line
behind_verb verb first rest =
    pick (leb (length rest) (place_of 32 rest)) (Err bad_line)
    (line_with (command_of verb (view (first + place_of 32 rest + 2) (length rest - place_of 32 rest - 1)) (take (place_of 32 rest) rest)))

unfoldable pub line_of : List ℕ → Line
line_of l =
    pick (eqb (length l) 0) (Ok None)
    (pick (leb (length l) (place_of 32 l)) (Err bad_line) (behind_verb (verb_of (take (place_of 32 l) l)) (place_of 32 l) (drop (place_of 32 l + 1) l)))

-- ---- what a line asks for, and the buffer afterwards
abbrev pub with_bytes : Command → Unhexed → Asked
with_bytes command (Some n) = Ok (Some (command, n))
with_bytes command None = Err bad_line

abbrev pub asks : Line → List ℕ → ℕ → Asked
asks (Ok None) l room = Ok None
asks (Ok (Some command)) l room = with_bytes command (unhexed (viewed l command.text) room)
asks (Err bad) l room = Err bad

abbrev pub asked_of : List ℕ → ℕ → Asked
asked_of l room = asks (line_of l) l room

abbrev pub puts : Line → List ℕ → List ℕ → List ℕ
puts (Ok None) l bytes = bytes
puts (Ok (Some command)) l bytes = unhexed_into (viewed l command.text) bytes
puts (Err bad) l bytes = bytes

abbrev pub asked_into : List ℕ → List ℕ → List ℕ
asked_into l bytes = puts (line_of l) l bytes
