-- The judge's verdict, and then the views.
use Rattle.std.proofs.Common.{ap}
use Rattle.format.specs.declared.Header.{Header}
use Rattle.judge.proofs.Laws.Calls.{record_read}
use Rattle.list_text.proofs.listing.Goals as goal

pub view_lines-requires : goal.view_lines-requires
view_lines-requires g c =
    record_read c.in-Ok.ensures λ r e h n z.
    record { value = r; reads = e; widths = ap (λ (x : Header). x.scale.widths) h; views = n }
