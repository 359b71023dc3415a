use Rattle.std.proofs.Common.{◌≡◌, ◌+◌, length, arith, Ok, refl}
use Rattle.std.proofs.lemmas.Grind.{common_steps}
use Rattle.wire.specs.View.{viewed}
use Rattle.writing.specs.Write.{write_answer}
use Rattle.writing.proofs.Answers.{wrote, put_there}
use Rattle.peer_down_notification.specs.Shown.{view_of}
use Rattle.peer_down_notification_writer.specs.Write.{writable, bytes_of}
use Rattle.peer_down_notification_writer.proofs.Written.{bytes_long, put_whole}
use Rattle.peer_down_notification_writer.proofs.write_peer_down_notification.Goals as goal

pub returns : goal.returns
returns c =
    let m = c.args.notification in
    let b = c.args.buffer.now in
    let out = c.args.out.now in
    let part : c.part-part.result.now ≡ viewed b (view_of m.«data») = grind (arith, common_steps) in
    let asked : Ok c.in_ok-length.length ≡ write_answer (writable m (length b)) (1 + length (viewed b (view_of m.«data»))) (length out) = grind (arith, common_steps) in
    let w = wrote _ (bytes_of m b) out _ (λ e. bytes_long m b) _ asked _ refl in
    put_there _ (bytes_of m b) out _ (λ e. bytes_long m b) _ asked _ refl _ (put_whole m b out c.put.new.out _ (omega (arith, w.fits, bytes_long m b)) (grind (arith, common_steps)) (grind (arith, common_steps)))
