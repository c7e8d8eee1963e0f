use Rattle.archive.proofs.pages.Pages.+list_chain.Given as goal

abbrev pub decreases-list_chain : goal.decreases-list_chain
decreases-list_chain l = l.left
