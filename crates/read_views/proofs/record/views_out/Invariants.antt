-- One view after the other. The invariant holds the views that are laid and those still to be read.
use Rattle.read_views.proofs.Laws.Views.{ViewsDone}
use Rattle.read_views.proofs.record.views_out.Given as goal

abbrev pub invariant-loop : goal.invariant-loop
invariant-loop l = ViewsDone l.w l.count l.bytes l.initial.out l.out l.p l.counter l.at
