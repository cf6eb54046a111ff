mod Unique
