mod After
mod Entailed
mod Flags
mod Going
mod Numbers
mod Walks
