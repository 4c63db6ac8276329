use Rattle.std.proofs.Common.{◌∙◌, sym}
use Rattle.ascending_nodes.proofs.Calls.{fits}
use Rattle.ascending_nodes.proofs.ascending_nodes.Goals as goal

pub invariant_of-fill_nodes : goal.invariant_of-fill_nodes
invariant_of-fill_nodes c = record { full = (fits _ _ _ (sym c.nodes_refusal.ensures ∙ c.in_ok-nodes_refusal.was)).0 }

pub fill_nodes-count-requires : goal.fill_nodes-count-requires
fill_nodes-count-requires c = (fits _ _ _ (sym c.nodes_refusal.ensures ∙ c.in_ok-nodes_refusal.was)).1
