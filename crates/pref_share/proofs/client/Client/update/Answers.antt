use Rattle.pref_share.proofs.client.Client.update.Goals as goal

-- an update that was made is not refused
pub returns-clause-refused : goal.returns-clause-refused
returns-clause-refused g c = tt
