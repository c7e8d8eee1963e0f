use Rattle.archive.proofs.pages.Pages.+follow.Given as goal

abbrev pub decreases-follow : goal.decreases-follow
decreases-follow l = l.left
