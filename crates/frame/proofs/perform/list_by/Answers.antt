-- `list_by` prints what the page of a list gives.
use Rattle.std.proofs.Common.{◌≡◌}
use Rattle.machine.specs.Results.{accepted}
use Rattle.answers.specs.Answers.{extent_of}
use Rattle.frame.specs.Frames.{list_of}
use Rattle.frame.proofs.PerformLaws.{list-text}
use Rattle.frame.proofs.perform.list_by.Goals as goal

pub returns-in-Ok : goal.returns-in-Ok
returns-in-Ok c =
    let a = c.args in
    let p = c.in-Ok.paged in
    let given : accepted (p.entries, p.next) ≡ extent_of (list_of a.image.now) = rw c.in-Ok.is at c.page_whole.ensures.answer in
    let t =
    list-text (list_of a.image.now) p.entries p.next a.entries.now _ a.out.now _ _ given c.page_whole.ensures.bytes c.put_line.ensures.1 c.put_entries.ensures
    in
    record { value = t.0; out_after = t.1 }
