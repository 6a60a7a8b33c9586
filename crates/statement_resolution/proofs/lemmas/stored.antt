pub mod StoredNumbers
