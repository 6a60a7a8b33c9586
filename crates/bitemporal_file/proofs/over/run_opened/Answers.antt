use Rattle.bitemporal_file.proofs.over.run_opened.Goals as goal

pub returns-in-false-false-clause-ran : goal.returns-in-false-false-clause-ran
returns-in-false-false-clause-ran g c = rw (c.in-false-false.is-0, c.in-false-false.is-1, ← c.as_slice-files.ensures.value) c.run_store-in-false-false.ensures.ran

pub returns-in-false-true-clause-ran : goal.returns-in-false-true-clause-ran
returns-in-false-true-clause-ran g c = rw (c.in-false-true.is-0, c.in-false-true.is-1, ← c.as_slice-files.ensures.value) c.run_store-in-false-true.ensures.ran

pub returns-in-true-false-clause-ran : goal.returns-in-true-false-clause-ran
returns-in-true-false-clause-ran g c = rw (c.in-true-false.is-0, c.in-true-false.is-1, ← c.as_slice-files.ensures.value) c.run_store-in-true-false.ensures.ran

pub returns-in-true-true-clause-ran : goal.returns-in-true-true-clause-ran
returns-in-true-true-clause-ran g c = rw (c.in-true-true.is-0, c.in-true-true.is-1, ← c.as_slice-files.ensures.value) c.run_store.ensures.ran
