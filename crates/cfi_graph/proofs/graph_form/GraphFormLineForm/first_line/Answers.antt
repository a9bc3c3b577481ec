use Rattle.std.proofs.lemmas.Option.{IfSome_then}
use Rattle.cfi_graph.proofs.graph_form.GraphFormLineForm.first_line.Goals as goal

pub returns : goal.returns
returns c = IfSome_then c.first_line.result c.first_line.ensures (λ f told. told c.args.self.now.version c.args.self.now.code)
